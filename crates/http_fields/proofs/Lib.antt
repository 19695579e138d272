mod FieldValues
mod Numbers
