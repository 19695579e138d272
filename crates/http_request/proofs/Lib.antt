mod EscapeSets
mod EventFilters
mod Filters
mod Grammar
mod Lines
mod Tags
mod Targets
