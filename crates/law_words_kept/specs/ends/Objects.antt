-- THE OBJECT OF A REQUEST OR A DROP has the message's word and lies where it leads: that follows from types and other sentences (this project's rule).
use Rattle.law_words_kept.specs.Below.server_model.Servers.{Cluster}
use Rattle.law_words_kept.specs.Below.coherent_memory.Sight.{sight}
use Rattle.law_words_kept.specs.Below.coherent_memory.Words.{HasWords}
use Rattle.law_words_kept.specs.Below.coherent_memory.Coherent.{Holds, objects_there}
use Rattle.law_words_kept.specs.Below.law_words_paths.paths.HeapStore.{HasPaths}
use Rattle.law_words_kept.specs.reads.Answering.{AnswersTold}

-- of a `fetch`, a `move` or a `drop`
abbrev pub ObjectsFollow : Type 0
ObjectsFollow = (k : Cluster) → HasPaths k → HasWords (sight k) → AnswersTold k → Holds k objects_there
