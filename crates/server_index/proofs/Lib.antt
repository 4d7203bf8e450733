pub mod TableLemmas
mod RowLemmas
mod IndexLemmas
mod SumLemmas
mod RankLemmas
mod MarkSetLemmas
mod LineLemmas
