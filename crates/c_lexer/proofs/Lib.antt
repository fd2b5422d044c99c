mod LexedLemmas
