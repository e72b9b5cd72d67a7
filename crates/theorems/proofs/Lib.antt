-- What the edits of must-fail/ put in place of the theorems is denied.
pub mod Denials
