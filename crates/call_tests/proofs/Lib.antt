mod ReadyLemmas
