pub mod PrintExamples
pub mod PrintWords
pub mod PrintLemmas
pub mod PrintTexts
pub mod PrintTokens
pub mod PrintLaw
pub mod SourceTexts
