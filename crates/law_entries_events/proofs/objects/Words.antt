-- Where an object lands its word is the new one, and each other live object keeps its word: a word that isn't the new one and stands afterwards was issued before.
use Rattle.std.proofs.Common.{◌≡◌, ◌≤◌, ◌⊎◌, inl, inr, ⊎_elim, ℕ, ◌==◌, ◌&&◌, Bool, true, false, if◌then◌else◌, None, refl, sym, ap, ap₂, subst, ◌∙◌, arith}
use Rattle.law_runs_whole.specs.Below.law_words_ends.Below.fr_base.declared.name.ObjNo.{ObjNo}
use Rattle.law_runs_whole.specs.Below.law_words_ends.Below.global_addr.Words.{server_of, address_of}
use Rattle.law_runs_whole.specs.Below.law_words_ends.Below.heap_partition.declared.value.Cell.{Cell}
use Rattle.law_runs_whole.specs.Below.server_model.Servers.{Cluster}
use Rattle.law_runs_whole.specs.Below.coherent_memory.Names.{tot, one, other, same_object, Among}
use Rattle.law_runs_whole.specs.Below.coherent_memory.Things.{Thing, lies, flies, things_of}
use Rattle.law_runs_whole.specs.Below.coherent_memory.Sight.{Pointer, pointers_in, taken_pointers, sight, issued}
use Rattle.law_runs_whole.specs.Below.coherent_memory.Weights.{cells, states}
use Rattle.law_runs_whole.specs.Below.coherent_memory.Placing.{words}
use Rattle.law_runs_whole.specs.Below.coherent_memory.Words.{IsStale, Fresh, HasWords, LeadsTo}
use Rattle.law_runs_whole.proofs.Below.law_words_ends.Below.coherent_memory.Words.{named}
use Rattle.law_runs_whole.proofs.Below.law_counts_sums.Askers.{other_none}
use Rattle.law_runs_whole.proofs.Below.law_words_ends.Below.law_heap_still.events.Tests.{numbers}
use Rattle.law_runs_whole.proofs.Below.law_words_ends.Below.law_words_paths.paths.InState.{only_one}
use Rattle.law_runs_whole.proofs.Below.law_words_ends.Below.law_words_paths.paths.Origins.{among_first}
use Rattle.law_runs_whole.proofs.Below.law_words_ends.Below.law_words_kept.reads.Flights.{truly}
use Rattle.law_runs_whole.proofs.Below.law_words_ends.Below.law_words_paths.words.Standing.{pointers_among}
use Rattle.law_runs_whole.proofs.Below.law_words_ends.Below.law_results_reads.Flights.{weighs}
use Rattle.law_runs_whole.specs.Below.law_words_ends.Below.law_words_kept.prepared.Requests.{WordsRise}
use Rattle.law_runs_whole.proofs.Below.law_words_issued.apart.UnderWay.{FlightsIssued}
use Rattle.law_runs_whole.proofs.Below.law_words_issued.ever.Fresh.{Home}
use Rattle.law_entries_events.proofs.objects.PointerWords.{pointer_words}

-- a word that isn't that one and wasn't issued
abbrev pub strange : Cluster → ℕ → ℕ → ℕ
strange k w u = if u == w then 0 else other (issued (sight k) u)

pub strange_itself : (k : Cluster) (w : ℕ) → strange k w w ≡ 0
strange_itself k w = ap (λ b. if b then 0 else other (issued (sight k) w)) (numbers.itself w)

old_or_new : (k : Cluster) (w u : ℕ) → strange k w u ≡ 0 → (u ≡ w) ⊎ (issued (sight k) u ≡ true)
old_or_new k w u z = by (u == w) refl z
  where
    by : (b : Bool) → (u == w) ≡ b → (if b then 0 else other (issued (sight k) u)) ≡ 0 → (u ≡ w) ⊎ (issued (sight k) u ≡ true)
    by true e f = inl (numbers.tells u w e)
    by false e f = inr (other_none (issued (sight k) u) f)

same_spot : (r a s b : ℕ) → s ≡ r → b ≡ a → one (s == r && b == a) ≡ 1
same_spot r a s b e f = ap₂ (λ p q. one (p && q)) (subst (λ z. (s == z) ≡ true) e (numbers.itself s)) (subst (λ z. (b == z) ≡ true) f (numbers.itself b))

same_lying : (r a s b : ℕ) (c d : Cell) → lies r a c ≡ lies s b d → c ≡ d
same_lying r a s b c d e = cc

-- the words afterwards, of live objects
pub record WordsThen (k d : Cluster) (o : ObjNo) (w : ℕ) : Type 0 where
  pub before : HasWords (sight k)
  pub after : HasWords (sight d)
  pub its : after.word o ≡ w
  pub others : (q : ObjNo) → (q ≡ o → ⊥) → 1 ≤ tot (cells q) (things_of d) → after.word q ≡ before.word q

module _ (k d : Cluster) (o : ObjNo) (w n a : ℕ) (c : Cell) (new : issued (sight k) w ≡ false) (server : server_of w ≡ n) (address : address_of w ≡ a) (object : c.object ≡ o) (there : Among (lies n a c) (things_of d)) (once : tot (states (n, a)) (things_of d) ≤ 1)
    (rise : WordsRise k d) (flights : FlightsIssued k d) (home : Home d rise.has_words w) (fewer : tot (words (strange k w)) (things_of d) ≡ 0) where
  abbrev word_then : ObjNo → ℕ
  word_then = rise.has_words.word

  -- what lies where the word leads is the object that landed
  landed_there : (r b : ℕ) (x : Cell) → Among (lies r b x) (things_of d) → word_then x.object ≡ w → x.object ≡ o
  landed_there r b x h e =
      let leads : LeadsTo r b (word_then x.object) = rise.has_words.home r b x h in
      let server_so : r ≡ n = sym leads.server ∙ ap server_of e ∙ server in
      let address_so : b ≡ a = sym leads.address ∙ ap address_of e ∙ address in
      let here : states (n, a) (lies r b x) ≡ 1 = same_spot n a r b server_so address_so in
      let mine : states (n, a) (lies n a c) ≡ 1 = same_spot n a n a refl refl in
      let same : lies r b x ≡ lies n a c = only_one (states (n, a)) (lies r b x) (lies n a c) (things_of d) once h there (omega (arith, here)) (omega (arith, mine)) in
      ap (λ (y : Cell). y.object) (same_lying r b n a x c same) ∙ object

  its_word : word_then o ≡ w
  its_word = sym (ap word_then (landed_there home.server home.address home.cell home.among home.word)) ∙ home.word

  -- a word that was issued is the one that it was
  issued_is_old : (q : ObjNo) → issued (sight k) (word_then q) ≡ true → word_then q ≡ rise.began.word q
  issued_is_old q was =
      ⊎_elim (λ (e : word_then q ≡ rise.began.word q). e) (λ (e : issued (sight k) (word_then q) ≡ false). absurd (no (sym was ∙ e))) (rise.rises q)
    where
      no : true ≡ false → ⊥
      no e = cc e

  lying_word : (r b : ℕ) (x : Cell) → Among (lies r b x) (things_of d) → (x.object ≡ o → ⊥) → word_then x.object ≡ rise.began.word x.object
  lying_word r b x h away = of (rise.has_words.live r b x h)
    where
      of : Fresh (sight d) x.object → word_then x.object ≡ rise.began.word x.object
      of f =
          let p = f.pointer in
          let word_so : p.word ≡ word_then x.object =
          ⊎_elim (λ (s : IsStale (sight d) p.at). absurd (f.fresh s)) (λ (e : p.word ≡ word_then p.object). e) (rise.has_words.same p f.among) ∙ ap word_then f.object in
          let none : strange k w p.word ≡ 0 = omega (arith, fewer, pointer_words (strange k w) d p f.among) in
          ⊎_elim (λ (e : p.word ≡ w). absurd (away (landed_there r b x h (sym word_so ∙ e)))) (λ (e : issued (sight k) p.word ≡ true). issued_is_old x.object (ap (issued (sight k)) (sym word_so) ∙ e)) (old_or_new k w p.word none)

  flying_word : (v : ℕ) (x : Cell) → Among (flies v x) (things_of d) → word_then x.object ≡ rise.began.word x.object
  flying_word v x h =
      let p : Pointer = record { at = None; word = v; object = x.object } in
      let among = among_first p (pointers_in (things_of d)) (taken_pointers (sight d).code (sight d).ground (sight d).ground.threads) (pointers_among p (flies v x) (things_of d) h (inl refl)) in
      let word_so : v ≡ word_then x.object = ⊎_elim (λ (s : IsStale (sight d) None). absurd s) (λ (e : v ≡ word_then x.object). e) (rise.has_words.same p among) in
      issued_is_old x.object (ap (issued (sight k)) (sym word_so) ∙ flights v x h)

  other_word : (q : ObjNo) → (q ≡ o → ⊥) → 1 ≤ tot (cells q) (things_of d) → word_then q ≡ rise.began.word q
  other_word q away l = let y = weighs (cells q) (things_of d) l in by y.0 y.1 y.2
    where
      by : (z : Thing) → Among z (things_of d) → 1 ≤ cells q z → word_then q ≡ rise.began.word q
      by (lies r b x) h m = let same = named x.object q (truly (same_object x.object q) m) in subst (λ z. word_then z ≡ rise.began.word z) same (lying_word r b x h (λ e. away (sym same ∙ e)))
      by (flies v x) h m = let same = named x.object q (truly (same_object x.object q) m) in subst (λ z. word_then z ≡ rise.began.word z) same (flying_word v x h)
      by _ h m = absurd (omega (arith, m))

  pub words_then : WordsThen k d o w
  words_then = record { before = rise.began; after = rise.has_words; its = its_word; others = other_word }
