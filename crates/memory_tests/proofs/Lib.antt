mod MutexLemmas
