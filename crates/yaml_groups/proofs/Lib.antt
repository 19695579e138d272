pub mod CutSteps
pub mod LineEnds
pub mod FlowEnds
pub mod ScanSteps
pub mod HeadSteps
pub mod GroupSteps
