use Rattle.coloured_heap.proofs.IssuedWords.{issued_once}
use Rattle.coloured_heap.proofs.ListedOnce.{listed_once}
use Rattle.coloured_heap.proofs.laws.listed_once.Goals as goal

pub returns-clause-issued : goal.returns-clause-issued
returns-clause-issued c = issued_once

pub returns-clause-listed : goal.returns-clause-listed
returns-clause-listed c = listed_once
