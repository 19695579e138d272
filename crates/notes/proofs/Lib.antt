mod LeftSteps
