-- Clusters on the way of a start, to which words, cells and changed references stay.
use Rattle.std.proofs.Common.{◌≡◌, Option, refl}
use Rattle.law_copies_kept.specs.Below.server_model.Servers.{Cluster}
use Rattle.law_copies_kept.specs.Below.coherent_memory.Things.{Location, things_of}
use Rattle.law_copies_kept.specs.Below.coherent_memory.Follow.{cells_in}
use Rattle.law_copies_kept.specs.Below.coherent_memory.Coherent.{Holds, IsSound, first_at_holder}
use Rattle.law_words_borrows.specs.Below.law_words_paths.words.Reworded.{HasPlaces}
use Rattle.law_words_borrows.proofs.Below.law_words_kept.stays.Alike.{Alike}
use Rattle.law_words_borrows.proofs.Below.law_words_kept.stays.Seen.{seen_alike}
use Rattle.law_words_borrows.specs.Below.law_words_values.carried.Carried.{Carried}
use Rattle.law_copies_kept.proofs.Below.law_words_values.references.Beside.{Reached, reached_itself, reached_same, reached_carried}
use Rattle.law_copies_kept.proofs.copies.Clean.{KeepsClean, clean_goes}
use Rattle.law_copies_kept.proofs.references.Changed.{clean_chain}

-- words stay to it, and cells and changed references too
pub record Kept (k a : Cluster) : Type 0 where
  pub reached : Reached k a
  pub clean : KeepsClean k a

pub kept_itself : (k : Cluster) → IsSound k → Kept k k
kept_itself k sound = record { reached = reached_itself k sound; clean = record { on = λ c m. m; back = λ c m. m; changed_on = λ q m n. record { reference = q; among = m; same = refl; fresh = n }; changed_back = λ q m n. record { reference = q; among = m; same = refl; fresh = n } } }

-- words see the same of the next one
pub kept_alike : (k a b : Cluster) → Kept k a → HasPlaces b → b.code ≡ a.code → Alike a.code (things_of a) (things_of b) → Kept k b
kept_alike k a b w d same alike = record {
  reached = reached_same k a b w.reached d (seen_alike a b w.reached.places d same alike);
  clean = clean_chain w.clean (clean_goes.seen a b w.reached.places d same alike);
}

-- a value goes from one place to another
pub kept_carried : (k a b : Cluster) (f g : Option Location) → Holds a first_at_holder → Kept k a → HasPlaces b → cells_in (things_of b) ≡ cells_in (things_of a) → Carried a b f g → Kept k b
kept_carried k a b f g firsts w d cells u = record {
  reached = reached_carried k a b f g firsts w.reached d u;
  clean = clean_chain w.clean (clean_goes.carried a b f g w.reached.places d firsts cells u);
}
