mod WritingLemmas
pub mod Written
pub mod ReportedLines
pub mod JsonFormLemmas
pub mod JunitFormLemmas
pub mod ExplainedLemmas
pub mod FormsLemmas
