mod Bodies
mod FieldValues
mod Heading
mod Lengths
mod Limits
mod Listening
mod Overflowing
mod Searching
