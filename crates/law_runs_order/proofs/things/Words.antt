-- Objects have their words in whatever order things stand.
use Rattle.std.proofs.Common.{◌≡◌, ◌⊎◌, inl, inr, ℕ, List, Option, refl, sym, ◌∙◌}
use Rattle.law_runs_rounds.specs.Below.law_runs_coherent.Below.fr_base.declared.name.ObjNo.{ObjNo}
use Rattle.law_runs_rounds.specs.Below.law_runs_coherent.Below.server_model.Servers.{Server, Cluster}
use Rattle.law_runs_rounds.specs.Below.law_runs_coherent.Below.coherent_memory.Things.{Location, lies, servers_things, things_of}
use Rattle.law_runs_rounds.specs.Below.law_runs_coherent.Below.coherent_memory.Sight.{Pointer, sight}
use Rattle.law_runs_rounds.specs.Below.law_runs_coherent.Below.coherent_memory.Words.{IsStale, Fresh, HasWords}
use Rattle.law_runs_rounds.proofs.Below.law_runs_coherent.Below.coherent_memory.Words.{tells, told}
use Rattle.law_runs_order.specs.things.SameThings.{Reordered}
use Rattle.law_runs_order.proofs.things.Sights.{Apart, stale_same, all_there}

module _ (k : Cluster) (servers : List Server) (r : Reordered (things_of k) (servers_things servers)) (once : Apart (servers_things servers)) where
  abbrev z : Cluster
  z = record k { servers = servers }

  stale_too : (l : Option Location) → IsStale (sight z) l → IsStale (sight k) l
  stale_too l h = tells k l (stale_same k servers r once l ∙ told z l h)

  stale_back : (l : Option Location) → IsStale (sight k) l → IsStale (sight z) l
  stale_back l h = tells z l (sym (stale_same k servers r once l) ∙ told k l h)

  word_or_stale : (p : Pointer) (w : ℕ) → IsStale (sight z) p.at ⊎ (p.word ≡ w) → IsStale (sight k) p.at ⊎ (p.word ≡ w)
  word_or_stale p w (inl h) = inl (stale_too p.at h)
  word_or_stale p w (inr e) = inr e

  fresh_too : (o : ObjNo) → Fresh (sight z) o → Fresh (sight k) o
  fresh_too o f = record { pointer = f.pointer; among = (all_there k servers r once).from f.pointer f.among; object = f.object; fresh = λ h. f.fresh (stale_back f.pointer.at h) }

  pub words_too : HasWords (sight z) → HasWords (sight k)
  words_too before = record {
    word = before.word;
    same = λ p m. word_or_stale p (before.word p.object) (before.same p ((all_there k servers r once).to p m));
    live = λ n i c m. fresh_too c.object (before.live n i c (r.to (lies n i c) m));
    home = λ n i c m. before.home n i c (r.to (lies n i c) m);
  }

  -- the same ones
  pub words_same : (before : HasWords (sight z)) (o : ObjNo) → (words_too before).word o ≡ before.word o
  unfolding words_too
  words_same before o = refl
