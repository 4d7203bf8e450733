-- A cluster is what a journal leaves, under the plain run of the cluster's own code (this project's rule).
use Rattle.std.specs.Prelude.{List}
use Rattle.journal.specs.View.{EntryView}
use Rattle.server_model.specs.Servers.{Cluster}
use Rattle.coherent_memory.specs.LeftBy.{LeftBy}
use Rattle.code_meaning.specs.OneHeap.{plain_run}

-- the order of the journal is one of plain steps of the code over one heap; they have the journal's labels and leave the cluster's one heap. Beside
-- that stands what a journal leaves of words, copies, messages and events
abbrev pub LeftByItsCode : Cluster → List EntryView → Type 0
LeftByItsCode k es = LeftBy (plain_run k.code) k es
