pub mod AnswerLemmas
pub mod EndLemmas
pub mod NameLemmas
pub mod NoteLemmas
pub mod OwnLemmas
pub mod QuestionLemmas
pub mod ToldLemmas
mod TextLemmas
mod RunLemmas
mod StrictLemmas
pub mod KeepLemmas
mod PlanQuestions
mod LineLemmas
mod FollowLemmas
mod EscapedLemmas
