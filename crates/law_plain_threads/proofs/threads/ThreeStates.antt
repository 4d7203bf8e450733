-- A thread that waits for two new ones, in a list of threads, and their captures one by one.
use Rattle.std.proofs.Common.{◌≡◌, ◌≢◌, ⊎_elim, ◌∙◌, ℕ, Bool, false, List, [], ◌∷◌, ◌++◌, Some, None, refl, sym, ap, subst}
use Rattle.std.specs.Prelude.{if◌then◌else◌}
use Rattle.fr_typing.proofs.PlaceLemmas.{eq_cases}
use Rattle.fr_typing.specs.Kinds.{Owned, unit, Kind}
use Rattle.fr_typing.specs.Places.{Env}
use Rattle.fr_store.proofs.Keys.{decide_number}
use Rattle.fr_plain.specs.declared.value.Value.{Value}
use Rattle.fr_plain.specs.MachineThreads.{Life, owing, Thread, Whole, thread_at, with_thread, is_over, pair_of}
use Rattle.fr_plain.specs.PlainState.{place_in, running_in, is_over_in, two_of, plain_state}
use Rattle.fr_plain.proofs.ByName.{or_else}
use Rattle.law_plain_threads.proofs.threads.Added.{thread_first, thread_skip, or_none, more_here, more_off}
use Rattle.fr_sound.specs.Entries.{going, forked_at}
use Rattle.law_plain_values.specs.acts.Positions.{Position}
use Rattle.law_plain_values.specs.acts.Keeps.{GoesOn}
use Rattle.law_plain_values.proofs.acts.OneThread.{with_running}
use Rattle.law_plain_values.proofs.acts.Threads.{objects_counted, pairs_by}
use Rattle.law_plain_threads.proofs.threads.TwoStates.{goes_place, goes_with, not_over}
use Rattle.law_plain_threads.proofs.threads.ForkedPasses.{Family}

-- STATES

module _ (s : Whole Position) (t : Thread Position) (wrap : Position → Life Position) (goes : GoesOn wrap) (stands : thread_at s.threads t.number ≡ Some t) (still : is_over t.life ≡ false) (b c : ℕ) (none_b : thread_at s.threads b ≡ None) (none_c : thread_at s.threads c ≡ None) (differ : b ≢ c) (ts : List Kind) (g : Owned) (temps : List Value) where
  abbrev pub waiting_at : Env → Position
  waiting_at e = record { entry = forked_at e ts g; temps = temps }

  abbrev pub branch_at : Env → Position
  branch_at n = record { entry = going n [] unit; temps = [] }

  abbrev pub three_state : Env → List Value → Env → List Value → Env → List Value → Whole Position
  three_state e sl n new m new2 = record s {
    threads = with_thread s.threads (record { number = t.number; life = wrap (waiting_at e); slots = sl }) ++ record { number = b; life = owing (branch_at n); slots = new } ∷ record { number = c; life = owing (branch_at m); slots = new2 } ∷ [];
    pairs = record { parent = t.number; first = b; second = c } ∷ s.pairs;
  }

  pub not_parent : (w : ℕ) → thread_at s.threads w ≡ None → w ≢ t.number
  not_parent w none q = let f : None ≡ Some t = sym none ∙ ap (thread_at s.threads) q ∙ stands in cc

  module _ (e : Env) (sl : List Value) (n : Env) (new : List Value) (m : Env) (new2 : List Value) where
    abbrev rest : List (Thread Position)
    rest = record { number = b; life = owing (branch_at n); slots = new } ∷ record { number = c; life = owing (branch_at m); slots = new2 } ∷ []

    abbrev tn : Thread Position
    tn = record { number = t.number; life = wrap (waiting_at e); slots = sl }

    pub three_here : thread_at (three_state e sl n new m new2).threads t.number ≡ Some (record { number = t.number; life = wrap (waiting_at e); slots = sl })
    three_here = more_here s.threads rest t.number t tn refl stands

    pub three_one : thread_at (three_state e sl n new m new2).threads b ≡ Some (record { number = b; life = owing (branch_at n); slots = new })
    three_one =
        more_off s.threads rest t.number t tn refl stands b (not_parent b none_b) ∙ ap (λ o. or_else o (thread_at rest b)) none_b
        ∙ thread_first (record { number = b; life = owing (branch_at n); slots = new }) (record { number = c; life = owing (branch_at m); slots = new2 } ∷ []) b refl

    pub three_two : thread_at (three_state e sl n new m new2).threads c ≡ Some (record { number = c; life = owing (branch_at m); slots = new2 })
    three_two =
        more_off s.threads rest t.number t tn refl stands c (not_parent c none_c) ∙ ap (λ o. or_else o (thread_at rest c)) none_c
        ∙ thread_skip (record { number = b; life = owing (branch_at n); slots = new }) (record { number = c; life = owing (branch_at m); slots = new2 } ∷ []) c differ
        ∙ thread_first (record { number = c; life = owing (branch_at m); slots = new2 }) [] c refl

    pub three_beyond : (w : ℕ) → w ≢ t.number → w ≢ b → w ≢ c → thread_at (three_state e sl n new m new2).threads w ≡ thread_at s.threads w
    three_beyond w nt nb nc =
        more_off s.threads rest t.number t tn refl stands w nt
        ∙ ap (or_else (thread_at s.threads w))
        (thread_skip (record { number = b; life = owing (branch_at n); slots = new }) (record { number = c; life = owing (branch_at m); slots = new2 } ∷ []) w (λ q. nb (sym q)) ∙ thread_skip (record { number = c; life = owing (branch_at m); slots = new2 }) [] w (λ q. nc (sym q)))
        ∙ or_none (thread_at s.threads w)

    pub three_runs : place_in ((plain_state (three_state e sl n new m new2)).thread t.number) ≡ Some (record { place = waiting_at e; slots = sl })
    three_runs = ap (λ o. place_in (running_in o)) three_here ∙ goes_place wrap goes sl (waiting_at e)

    -- who is over is who was
    pub three_over : (w : ℕ) → is_over_in (thread_at (three_state e sl n new m new2).threads w) ≡ is_over_in (thread_at s.threads w)
    three_over w =
        ⊎_elim (λ (q : w ≡ t.number). subst (λ v. is_over_in (thread_at (three_state e sl n new m new2).threads v) ≡ is_over_in (thread_at s.threads v)) (sym q) (ap is_over_in three_here ∙ not_over wrap goes (waiting_at e) ∙ sym still ∙ sym (ap is_over_in stands)))
        (λ (nt : w ≢ t.number). ⊎_elim (λ (q : w ≡ b). subst (λ v. is_over_in (thread_at (three_state e sl n new m new2).threads v) ≡ is_over_in (thread_at s.threads v)) (sym q) (ap is_over_in three_one ∙ sym (ap is_over_in none_b)))
        (λ (nb : w ≢ b). ⊎_elim (λ (q : w ≡ c). subst (λ v. is_over_in (thread_at (three_state e sl n new m new2).threads v) ≡ is_over_in (thread_at s.threads v)) (sym q) (ap is_over_in three_two ∙ sym (ap is_over_in none_c)))
        (λ (nc : w ≢ c). ap is_over_in (three_beyond w nt nb nc)) (decide_number w c)) (decide_number w b)) (decide_number w t.number)

    -- the pairs are those that were there, and the new one
    pub three_pair : (plain_state (three_state e sl n new m new2)).pair t.number ≡ Some (b, c)
    three_pair = ap (λ (d : Bool). if d then None else two_of (pair_of (three_state e sl n new m new2).pairs t.number)) (ap is_over_in three_here ∙ not_over wrap goes (waiting_at e)) ∙ ap two_of (eq_cases (λ (d : Bool). (if d then Some (record { parent = t.number; first = b; second = c }) else pair_of s.pairs t.number) ≡ Some (record { parent = t.number; first = b; second = c })) t.number t.number (λ q. refl) (λ ne. absurd (ne refl)))

    pub three_pairs : (w : ℕ) → w ≢ t.number → (plain_state (three_state e sl n new m new2)).pair w ≡ (plain_state s).pair w
    three_pairs w nt =
        ap (λ (d : Bool). if d then None else two_of (pair_of (three_state e sl n new m new2).pairs w)) (three_over w)
        ∙ ap (λ o. if is_over_in (thread_at s.threads w) then None else two_of o) (eq_cases (λ (d : Bool). (if d then Some (record { parent = t.number; first = b; second = c }) else pair_of s.pairs w) ≡ pair_of s.pairs w) t.number w (λ q. absurd (nt (sym q))) (λ q. refl))

  -- from one such state to another
  module _ (e e2 : Env) (sl sl2 : List Value) (n n2 : Env) (new new2 : List Value) (m m2 : Env) (newer newer2 : List Value) where
    now : (plain_state (three_state e2 sl2 n2 new2 m2 newer2)).thread t.number ≡ with_running ((plain_state (three_state e sl n new m newer)).thread t.number) (record { place = waiting_at e2; slots = sl2 })
    now = ap running_in (three_here e2 sl2 n2 new2 m2 newer2) ∙ goes_with wrap goes sl sl2 (waiting_at e) (waiting_at e2) ∙ ap (λ o. with_running (running_in o) (record { place = waiting_at e2; slots = sl2 })) (sym (three_here e sl n new m newer))

    now_one : (plain_state (three_state e2 sl2 n2 new2 m2 newer2)).thread b ≡ with_running ((plain_state (three_state e sl n new m newer)).thread b) (record { place = branch_at n2; slots = new2 })
    now_one = ap running_in (three_one e2 sl2 n2 new2 m2 newer2) ∙ ap (λ o. with_running (running_in o) (record { place = branch_at n2; slots = new2 })) (sym (three_one e sl n new m newer))

    now_two : (plain_state (three_state e2 sl2 n2 new2 m2 newer2)).thread c ≡ with_running ((plain_state (three_state e sl n new m newer)).thread c) (record { place = branch_at m2; slots = newer2 })
    now_two = ap running_in (three_two e2 sl2 n2 new2 m2 newer2) ∙ ap (λ o. with_running (running_in o) (record { place = branch_at m2; slots = newer2 })) (sym (three_two e sl n new m newer))

    now_beyond : (w : ℕ) → w ≢ t.number → w ≢ b → w ≢ c → (plain_state (three_state e2 sl2 n2 new2 m2 newer2)).thread w ≡ (plain_state (three_state e sl n new m newer)).thread w
    now_beyond w nt nb nc = ap running_in (three_beyond e2 sl2 n2 new2 m2 newer2 w nt nb nc ∙ sym (three_beyond e sl n new m newer w nt nb nc))

    now_pairs : (w : ℕ) → (plain_state (three_state e2 sl2 n2 new2 m2 newer2)).pair w ≡ (plain_state (three_state e sl n new m newer)).pair w
    now_pairs = pairs_by (three_state e sl n new m newer) (three_state e2 sl2 n2 new2 m2 newer2) refl (λ w. three_over e2 sl2 n2 new2 m2 newer2 w ∙ sym (three_over e sl n new m newer w))

  -- the first of the two captures
  pub first_family : (m : Env) (newer : List Value) → Family t.number b ts g temps (λ e sl n new. plain_state (three_state e sl n new m newer))
  first_family m newer = record {
    now = λ e e2 sl sl2 n n2 new new2. now e e2 sl sl2 n n2 new new2 m m newer newer;
    now_new = λ e e2 sl sl2 n n2 new new2. now_one e e2 sl sl2 n n2 new new2 m m newer newer;
    others = λ e e2 sl sl2 n n2 new new2 w nt nb.
        ⊎_elim
        (λ (q : w ≡ c). subst (λ v. (plain_state (three_state e2 sl2 n2 new2 m newer)).thread v ≡ (plain_state (three_state e sl n new m newer)).thread v) (sym q) (ap running_in (three_two e2 sl2 n2 new2 m newer ∙ sym (three_two e sl n new m newer))))
        (λ (nc : w ≢ c). now_beyond e e2 sl sl2 n n2 new new2 m m newer newer w nt nb nc) (decide_number w c);
    pairs = λ e e2 sl sl2 n n2 new new2. now_pairs e e2 sl sl2 n n2 new new2 m m newer newer;
    mutexes = λ e e2 sl sl2 n n2 new new2 q. refl;
    given = λ e e2 sl sl2 n n2 new new2 q. refl;
    objects = λ e e2 sl sl2 n n2 new new2 q. refl;
    made = λ e sl n new. objects_counted (three_state e sl n new m newer);
  }

  -- and the second one
  pub second_family : (n : Env) (new : List Value) → Family t.number c ts g temps (λ e sl m newer. plain_state (three_state e sl n new m newer))
  second_family n new = record {
    now = λ e e2 sl sl2 m m2 newer newer2. now e e2 sl sl2 n n new new m m2 newer newer2;
    now_new = λ e e2 sl sl2 m m2 newer newer2. now_two e e2 sl sl2 n n new new m m2 newer newer2;
    others = λ e e2 sl sl2 m m2 newer newer2 w nt nc.
        ⊎_elim
        (λ (q : w ≡ b). subst (λ v. (plain_state (three_state e2 sl2 n new m2 newer2)).thread v ≡ (plain_state (three_state e sl n new m newer)).thread v) (sym q) (ap running_in (three_one e2 sl2 n new m2 newer2 ∙ sym (three_one e sl n new m newer))))
        (λ (nb : w ≢ b). now_beyond e e2 sl sl2 n n new new m m2 newer newer2 w nt nb nc) (decide_number w b);
    pairs = λ e e2 sl sl2 m m2 newer newer2. now_pairs e e2 sl sl2 n n new new m m2 newer newer2;
    mutexes = λ e e2 sl sl2 m m2 newer newer2 q. refl;
    given = λ e e2 sl sl2 m m2 newer newer2 q. refl;
    objects = λ e e2 sl sl2 m m2 newer newer2 q. refl;
    made = λ e sl m newer. objects_counted (three_state e sl n new m newer);
  }
