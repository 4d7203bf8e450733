mod ActLemmas
mod KeptLemmas
mod NumberLemmas
mod ServerLemmas
mod StarLemmas
mod StepLemmas
