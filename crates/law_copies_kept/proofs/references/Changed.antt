-- Which objects are changed through references stays where words see the same of all locations.
use Rattle.std.proofs.Common.{◌≡◌, Some, refl, sym, subst}
use Rattle.law_words_borrows.specs.Below.server_model.Servers.{Cluster}
use Rattle.law_words_borrows.specs.Below.coherent_memory.Names.{Among}
use Rattle.law_words_borrows.specs.Below.coherent_memory.Things.{Location, things_of}
use Rattle.law_words_borrows.specs.Below.coherent_memory.Follow.{cells_in, value_in}
use Rattle.law_words_borrows.specs.Below.coherent_memory.Sight.{sight}
use Rattle.law_copies_kept.specs.Below.law_words_paths.words.Reworded.{HasPlaces}
use Rattle.law_copies_kept.specs.Below.law_words_paths.words.Unmoved.{seen_at, Taking, takings}
use Rattle.law_copies_kept.proofs.Below.law_words_paths.words.Unmoved.{reference, stale_at}
use Rattle.law_copies_kept.proofs.Below.law_words_values.carried.Hands.{leaves_chain}
use Rattle.law_copies_kept.proofs.copies.Clean.{ChangedGo, KeepsClean, Leaves, clean_goes}

-- at each location stands the same, and threads have taken the same
pub record SameSeen (a b : Cluster) : Type 0 where
  pub stands : (l : Location) → seen_at l (value_in (sight b).ground l) ≡ seen_at l (value_in (sight a).ground l)
  pub takes : (t : Taking) → Among t (takings b.code (sight b).ground.threads) → Among t (takings a.code (sight a).ground.threads)
  pub took : (t : Taking) → Among t (takings a.code (sight a).ground.threads) → Among t (takings b.code (sight b).ground.threads)

-- so a reference stands where it stood, and is stale where it was
pub changed_where : (a b : Cluster) → HasPlaces a → HasPlaces b → SameSeen a b → ChangedGo a b
changed_where a b c d u q m n = record { reference = q; among = reference a b c u.stands u.took q m; same = refl; fresh = λ s. n (stale_at b a d (λ l. sym (u.stands l)) u.takes (Some q.at) s) }

pub turned_seen : (a b : Cluster) → SameSeen a b → SameSeen b a
turned_seen a b u = record { stands = λ l. sym (u.stands l); takes = u.took; took = u.takes }

-- with the same cells
pub clean_where : (a b : Cluster) → HasPlaces a → HasPlaces b → cells_in (things_of b) ≡ cells_in (things_of a) → SameSeen a b → KeepsClean a b
clean_where a b c d cells u = record {
  on = λ x m. subst (λ l. Among x l) (sym cells) m;
  back = λ x m. subst (λ l. Among x l) cells m;
  changed_on = changed_where a b c d u;
  changed_back = changed_where b a d c (turned_seen a b u);
}

-- ONE AFTER ANOTHER

pub clean_chain : {a b c : Cluster} → KeepsClean a b → KeepsClean b c → KeepsClean a c
clean_chain {a = a} {b = b} {c = c} p q = clean_goes.chain a b c p q

pub all_chain : {a b c : Cluster} → Leaves a b → Leaves b c → Leaves a c
all_chain p q = (leaves_chain p.0 q.0, clean_chain p.1 q.1)
