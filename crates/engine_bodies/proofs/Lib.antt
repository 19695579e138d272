mod BodyValues
mod Plain
mod Tables
