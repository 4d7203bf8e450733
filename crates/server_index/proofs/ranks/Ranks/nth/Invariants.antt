use Rattle.std.proofs.Common.{◌≡◌, ◌*◌, ◌^◌, drop}
use Rattle.server_index.specs.Rows.{places_from}
use Rattle.server_index.specs.Ranks.{mark_in}
use Rattle.server_index.proofs.RankLemmas.{nth_key}
use Rattle.server_index.proofs.ranks.Ranks.nth.Given as goal

-- the mark is looked for in the rows that are left
abbrev pub invariant-rows : goal.invariant-rows
invariant-rows l = nth_key (places_from mark_in (l.row * 2 ^ 32) (drop l.row l.self-inside.rows.items)) l.left ≡ nth_key (places_from mark_in 0 l.self-inside.rows.items) l.fn.at
