pub mod Reports
pub mod ReportText
pub mod BriefText
pub mod json_form
pub mod junit_form
pub mod explained
pub mod forms
