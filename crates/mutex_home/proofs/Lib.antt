mod MutexLemmas
mod StoreLemmas
mod QueueLemmas
