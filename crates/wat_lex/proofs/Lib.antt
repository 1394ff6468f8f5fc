pub mod CommentSteps
pub mod RunSteps
pub mod StringSteps
