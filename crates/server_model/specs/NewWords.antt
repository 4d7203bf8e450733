-- New words of objects (this project's rules): each comes with the change of the partition that issues it, and with its act.
use Rattle.std.specs.Prelude.{ℕ, ◌+◌, ◌^◌, ◌==◌, ◌&&◌, Bool, nat_lt, if◌then◌else◌, length, Option, Some, None}
use Rattle.global_addr.specs.Words.{colour_of, next_word}
use Rattle.place_walk.specs.Below.heap_partition.declared.value.BoxPtr.{BoxPtr}
use Rattle.place_walk.specs.Below.heap_partition.declared.value.Cell.{Cell}
use Rattle.owner_box.specs.View.{PartitionState}
use Rattle.owner_box.specs.Partition.{made, freed, renewed, new_word}
use Rattle.journal.specs.declared.act.Act.{Act}
use Rattle.journal.specs.declared.act.Act.TheVariants as act
use Rattle.server_model.specs.Work.{Work, note, with_partition, leads_here}

-- a new word, and the work once it is issued
pub record NewWord : Type 0 where
  pub word : ℕ
  pub work : Work

-- another object can be made: the next address is below 2^40
abbrev pub can_grow : PartitionState → Bool
can_grow p = nat_lt (length p.cells) (2 ^ 40)

-- the word has the last colour
abbrev pub is_last : PartitionState → ℕ → Bool
is_last p w = colour_of w + 1 == p.limit

-- a cell lies here from now on; the act names its word
abbrev pub issue_placed : (ℕ → Act) → Cell → Work → Option NewWord
issue_placed a c w =
    if can_grow w.rest.partition
    then Some (record { word = new_word w.rest.partition; work = note (a (new_word w.rest.partition)) (with_partition (made w.rest.partition c) w) })
    else None

-- the next colour at the same address
abbrev pub issue_tint : BoxPtr → Work → NewWord
issue_tint p w = record { word = next_word p.word; work = note (act.Tint p.object p.word (next_word p.word)) w }

-- a new address of an object that lies here, at the last colour of its word
abbrev pub issue_renewal : BoxPtr → Work → Option NewWord
issue_renewal p w =
    if leads_here w.rest.partition p.word && (is_last w.rest.partition p.word && can_grow w.rest.partition)
    then Some (record {
      word = new_word (freed w.rest.partition p.word);
      work = note (act.Renew p.object p.word (new_word (freed w.rest.partition p.word))) (with_partition (renewed w.rest.partition p.word) w);
    })
    else None

-- the next colour, and at the last colour a new address
abbrev pub issue_colour : BoxPtr → Work → Option NewWord
issue_colour p w = if nat_lt (colour_of p.word + 1) w.rest.partition.limit then Some (issue_tint p w) else issue_renewal p w
