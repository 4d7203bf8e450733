-- Where each object has a word, what a thread has taken is the word of the object to which its place leads; so it stands where that object lies.
use Rattle.std.proofs.Common.{◌≡◌, inl, inr, ⊎_elim, ℕ, zero, suc, ◌+◌, ◌≤◌, ◌==◌, ◌&&◌, not, Bool, true, false, List, [], ◌∷◌, ◌++◌, Option, Some, None, is_some, refl, sym, ap, subst, ◌∙◌, arith}
use Rattle.std.specs.Prelude.{slice_get}
use Rattle.std.proofs.lemmas.Bool.{eq-eqb, eqb-true}
use Rattle.law_words_ends.specs.Below.fr_base.declared.name.ObjNo.{ObjNo}
use Rattle.law_words_ends.specs.Below.fr_base.declared.place.Lval.{Lval}
use Rattle.law_words_ends.specs.Below.fr_base.declared.instruction.Instr.{Instr}
use Rattle.law_words_ends.specs.Below.fr_base.declared.instruction.Instr.TheVariants as instr
use Rattle.law_words_ends.specs.Below.thread_state.View.{is_over}
use Rattle.law_words_ends.specs.Below.thread_state.declared.phase.Phase.{Phase}
use Rattle.law_words_ends.specs.Below.thread_state.declared.phase.Phase.TheVariants as phase
use Rattle.law_words_ends.specs.Below.server_model.Servers.{Cluster}
use Rattle.law_words_ends.specs.Below.server_model.Events.{is_ready}
use Rattle.law_words_ends.specs.Below.coherent_memory.Names.{tot, one, other, some, if_so, Among}
use Rattle.law_words_ends.specs.Below.coherent_memory.Things.{Location, at_slot, at_temp, in_cell, things_of}
use Rattle.law_words_ends.specs.Below.coherent_memory.Follow.{Standing, Ground, threads_in, thread_at, place_at}
use Rattle.law_words_ends.specs.Below.coherent_memory.Sight.{Pointer, Sight, sight, is_word, word, pointers_in, taken_object, taken_of, taken_pointers}
use Rattle.law_words_ends.specs.Below.coherent_memory.Placing.{sum_over}
use Rattle.law_words_ends.specs.Below.coherent_memory.Weights.{lies_at}
use Rattle.law_words_ends.specs.Below.coherent_memory.Walking.{instr_of}
use Rattle.law_words_ends.specs.Below.coherent_memory.Requests.{lent_place, lies_here, taken_there, taken_phase}
use Rattle.law_words_ends.specs.Below.coherent_memory.Words.{HasWords, WordsLaw}
use Rattle.law_words_ends.specs.Below.coherent_memory.Coherent.{Holds, taken_stands}
use Rattle.law_words_ends.proofs.Below.coherent_memory.Names.{and_right}
use Rattle.law_words_ends.proofs.Below.coherent_memory.Words.{none_at, words_law}
use Rattle.law_words_ends.specs.Below.law_words_paths.paths.HeapStore.{GoesOn}
use Rattle.law_words_ends.proofs.Below.law_words_paths.paths.Contained.{among_thread}
use Rattle.law_words_ends.proofs.Below.law_words_paths.paths.Origins.{among_first, among_second}
use Rattle.law_words_ends.proofs.Below.law_words_paths.paths.Sole.{some_is}
use Rattle.law_words_ends.specs.Below.law_words_paths.paths.Pointing.{lends as lends_to}
use Rattle.law_words_ends.specs.Below.law_words_paths.words.Reworded.{HasPlaces}
use Rattle.law_words_ends.proofs.Below.law_heap_still.events.Told.{found}
use Rattle.law_walks_others.specs.Below.law_counts_waiting.waits.Places.{Follows, writes, LeadsAsItDid}
use Rattle.law_walks_others.proofs.pointers.New.{newly}
use Rattle.law_walks_own.proofs.taken.After.{Stays}

none_true : (b : Bool) → other b ≡ 0 → b ≡ true
none_true true z = refl
none_true false z = absurd (cc z)

some_one : (m : ℕ) → some m ≡ true → 1 ≤ m
some_one zero e = absurd (cc e)
some_one (suc m) e = omega arith

one_some : (m : ℕ) → 1 ≤ m → some m ≡ true
one_some zero l = absurd (omega (arith, l))
one_some (suc m) l = refl

both : (p q : Bool) → p ≡ true → q ≡ true → (p && q) ≡ true
both true q a b = b
both false q a b = absurd (cc a)

-- only in `Taken` something is said
pub only_taken : (s : Sight) (x : Standing) (q : Phase) → ((w : ℕ) → q ≡ phase.Taken w → taken_phase s x (phase.Taken w) ≡ 0) → taken_phase s x q ≡ 0
only_taken s x (phase.Taken w) f = f w refl
only_taken s x phase.Ready f = refl
only_taken s x phase.Got f = refl
only_taken s x (phase.WaitCell w) f = refl
only_taken s x (phase.WaitLock m) f = refl
only_taken s x (phase.WaitDup m) f = refl
only_taken s x (phase.WaitJoin u) f = refl
only_taken s x (phase.WaitPar a b) f = refl
only_taken s x (phase.GotPar a b) f = refl
only_taken s x phase.Over f = refl

-- THE WORD THAT WAS TAKEN

-- is a pointer to that object
taken_among : (code : List Instr) (g : Ground) (xs : List Standing) (x : Standing) (w : ℕ) (p : Lval) (o : ObjNo) → Among x xs → x.thread.phase ≡ phase.Taken w → slice_get code x.thread.pc ≡ Some (instr.BorrowMut p) → place_at g x.thread.number p ≡ Some (in_cell o)
    → Among (record { at = None; word = w; object = o }) (taken_pointers code g xs)
taken_among code g [] x w p o m is at leads = absurd m
taken_among code g (y ∷ xs) x w p o (inl e) is at leads = among_first (record { at = None; word = w; object = o }) (taken_of g y.thread y.thread.phase (slice_get code y.thread.pc)) (taken_pointers code g xs) (by y e)
  where
    by : (y : Standing) → y ≡ x → Among (record { at = None; word = w; object = o }) (taken_of g y.thread y.thread.phase (slice_get code y.thread.pc))
    by y e2 =
        subst (λ (z : Standing). Among (record { at = None; word = w; object = o }) (taken_of g z.thread z.thread.phase (slice_get code z.thread.pc))) (sym e2)
        (subst (λ q. Among (record { at = None; word = w; object = o }) (taken_of g x.thread q (slice_get code x.thread.pc))) (sym is)
        (subst (λ i. Among (record { at = None; word = w; object = o }) (taken_of g x.thread (phase.Taken w) i)) (sym at)
        (subst (λ l. Among (record { at = None; word = w; object = o }) (taken_object w l)) (sym leads) (inl refl))))
taken_among code g (y ∷ xs) x w p o (inr m) is at leads =
    among_second (record { at = None; word = w; object = o }) (taken_of g y.thread y.thread.phase (slice_get code y.thread.pc)) (taken_pointers code g xs) (taken_among code g xs x w p o m is at leads)

module _ (z : Cluster) (h : HasWords (sight z)) (x : Standing) (w : ℕ) (p : Lval) (o : ObjNo) (listed : Among x (sight z).ground.threads) (is : x.thread.phase ≡ phase.Taken w) (at : instr_of (sight z) x ≡ Some (instr.BorrowMut p))
    (leads : place_at (sight z).ground x.thread.number p ≡ Some (in_cell o)) where
  abbrev pointer : Pointer
  pointer = record { at = None; word = w; object = o }

  among : Among pointer (pointers_in (sight z).things ++ taken_pointers (sight z).code (sight z).ground (sight z).ground.threads)
  among = among_second pointer (pointers_in (sight z).things) (taken_pointers (sight z).code (sight z).ground (sight z).ground.threads) (taken_among (sight z).code (sight z).ground (sight z).ground.threads x w p o listed is at leads)

  -- so it is the word of the object
  its_word : is_word (word (sight z) o) w ≡ true
  its_word =
      let law : WordsLaw = words_law in
      let has : w ≡ h.word o = ⊎_elim (λ (n : ⊥). absurd n) (λ (e : w ≡ h.word o). e) (h.same pointer among) in
      ap (λ v. is_word v w) (law.first_tells z h o (record { pointer = pointer; among = among; object = refl; fresh = λ n. n })) ∙ ap (λ v. v == w) (sym has) ∙ eq-eqb w w refl

  -- and stands, where the object lies there
  pub stands_so : 1 ≤ tot (lies_at x.server o) (things_of z) → taken_phase (sight z) x (phase.Taken w) ≡ 0
  stands_so lies =
      ap (λ i. taken_there (sight z) x w (lent_place i)) at
      ∙ ap (λ l. other (lies_here (sight z) x.server w l)) leads ∙ ap other (both (is_word (word (sight z) o) w) (some (sum_over (sight z) (lies_at x.server o))) its_word (one_some (sum_over (sight z) (lies_at x.server o)) lies))

-- WHO HAD TAKEN AN OBJECT

-- at which borrow, and where the object lies
pub record Taker (k : Cluster) (x : Standing) : Type 0 where
  pub place : Lval
  pub at : instr_of (sight k) x ≡ Some (instr.BorrowMut place)
  pub object : ObjNo
  pub leads : place_at (sight k).ground x.thread.number place ≡ Some (in_cell object)
  pub lies : 1 ≤ tot (lies_at x.server object) (things_of k)

pub taker : (k : Cluster) (x : Standing) (w : ℕ) → taken_phase (sight k) x (phase.Taken w) ≡ 0 → Taker k x
taker k x w z = by (instr_of (sight k) x) refl z
  where
    there : (p : Lval) → instr_of (sight k) x ≡ Some (instr.BorrowMut p) → (l : Option Location) → place_at (sight k).ground x.thread.number p ≡ l → other (lies_here (sight k) x.server w l) ≡ 0 → Taker k x
    there p at None e f = absurd (cc f)
    there p at (Some (at_slot u i)) e f = absurd (cc f)
    there p at (Some (at_temp u i)) e f = absurd (cc f)
    there p at (Some (in_cell o)) e f = record {
      place = p;
      at = at;
      object = o;
      leads = e;
      lies = some_one (sum_over (sight k) (lies_at x.server o)) (and_right (is_word (word (sight k) o) w) (some (sum_over (sight k) (lies_at x.server o))) (none_true (is_word (word (sight k) o) w && some (sum_over (sight k) (lies_at x.server o))) f));
    }

    by : (i : Option Instr) → instr_of (sight k) x ≡ i → taken_there (sight k) x w (lent_place i) ≡ 0 → Taker k x
    by (Some (instr.BorrowMut p)) e f = there p e (place_at (sight k).ground x.thread.number p) refl f
    by None e f = absurd (cc f)
    by (Some (instr.Let o)) e f = absurd (cc f)
    by (Some (instr.Assign p o)) e f = absurd (cc f)
    by (Some (instr.Read p b)) e f = absurd (cc f)
    by (Some (instr.Borrow p)) e f = absurd (cc f)
    by (Some (instr.Box o)) e f = absurd (cc f)
    by (Some (instr.Arith g a b)) e f = absurd (cc f)
    by (Some (instr.Print o)) e f = absurd (cc f)
    by (Some instr.Discard) e f = absurd (cc f)
    by (Some instr.DropSlot) e f = absurd (cc f)
    by (Some (instr.Spawn cs pc)) e f = absurd (cc f)
    by (Some (instr.Join o)) e f = absurd (cc f)
    by (Some (instr.Mutex o)) e f = absurd (cc f)
    by (Some (instr.Dup p)) e f = absurd (cc f)
    by (Some (instr.Lock p)) e f = absurd (cc f)
    by (Some instr.Unlock) e f = absurd (cc f)
    by (Some (instr.Par cs pc ds other)) e f = absurd (cc f)
    by (Some instr.ParEnd) e f = absurd (cc f)
    by (Some (instr.End o)) e f = absurd (cc f)

-- WHO STANDS

ready_so : (p : Phase) → one (not (is_ready p)) ≡ 0 → p ≡ phase.Ready
ready_so phase.Ready e = refl
ready_so phase.Got e = absurd (cc e)
ready_so (phase.Taken w) e = absurd (cc e)
ready_so (phase.WaitCell w) e = absurd (cc e)
ready_so (phase.WaitLock m) e = absurd (cc e)
ready_so (phase.WaitDup m) e = absurd (cc e)
ready_so (phase.WaitJoin u) e = absurd (cc e)
ready_so (phase.WaitPar a b) e = absurd (cc e)
ready_so (phase.GotPar a b) e = absurd (cc e)
ready_so phase.Over e = absurd (cc e)

-- what holds of each thread but the event's own one, where it holds of who is ready, and of who stood before and stands as it stood
module _ (k z : Cluster) (after : HasPlaces z) (none : tot (newly k) (threads_in (things_of z)) ≡ 0) (Own : ℕ → Type 0) (stays : (x : Standing) → thread_at (sight k).ground.threads x.thread.number ≡ Some x → (Own x.thread.number → ⊥) → Stays z x)
    (wrong : Standing → ℕ) (ready : (x : Standing) → x.thread.phase ≡ phase.Ready → wrong x ≡ 0)
    (kept : (x : Standing) → Among x (sight k).ground.threads → thread_at (sight k).ground.threads x.thread.number ≡ Some x → (Own x.thread.number → ⊥) → (y : Standing) → Among y (sight z).ground.threads → ((g : Standing → ℕ) → g y ≡ g x) → wrong y ≡ 0) where
  pub of_others : (x : Standing) → Among x (sight z).ground.threads → (Own x.thread.number → ⊥) → wrong x ≡ 0
  of_others x among ne = by (thread_at (sight k).ground.threads x.thread.number) refl
    where
      here : thread_at (sight z).ground.threads x.thread.number ≡ Some x
      here = found x (things_of z) (after.numbers_differ x.thread.number) among

      stood : (u : Standing) → Among u (sight k).ground.threads → u.thread.number ≡ x.thread.number → thread_at (sight k).ground.threads u.thread.number ≡ Some u → wrong x ≡ 0
      stood u listed number there =
          let off : Own u.thread.number → ⊥ = λ (f : Own u.thread.number). ne (subst Own number f) in
          let st : Stays z u = stays u there off in
          let same : st.standing ≡ x = some_is (sym st.found ∙ ap (thread_at (sight z).ground.threads) number ∙ here) in
          kept u listed there off x among (λ g. ap g (sym same) ∙ st.same g)

      by : (o : Option Standing) → thread_at (sight k).ground.threads x.thread.number ≡ o → wrong x ≡ 0
      by None f =
          let its : newly k x ≡ 0 = none_at (newly k) x (threads_in (things_of z)) none among in
          let parts : one (not (is_ready x.thread.phase)) + one (is_some x.thread.gift) ≡ 0 = sym (ap (λ o. if_so (not (is_some o)) (one (not (is_ready x.thread.phase)) + one (is_some x.thread.gift))) f) ∙ its in
          ready x (ready_so x.thread.phase (omega (arith, parts)))
      by (Some u) f = let q = among_thread (sight k).ground.threads x.thread.number u f in stood u q.0 q.1 (ap (thread_at (sight k).ground.threads) q.1 ∙ f)

-- it has taken under that word
abbrev pub took : ℕ → Phase → ℕ
took w (phase.Taken v) = one (v == w)
took w p = 0

pub took_it : (w : ℕ) (p : Phase) → took w p ≡ 1 → p ≡ phase.Taken w
took_it w (phase.Taken v) e = ap phase.Taken (eqb-true v w (is (v == w) e))
  where
    is : (b : Bool) → one b ≡ 1 → b ≡ true
    is true f = refl
    is false f = absurd (cc f)
took_it w phase.Ready e = absurd (cc e)
took_it w phase.Got e = absurd (cc e)
took_it w (phase.WaitCell v) e = absurd (cc e)
took_it w (phase.WaitLock m) e = absurd (cc e)
took_it w (phase.WaitDup m) e = absurd (cc e)
took_it w (phase.WaitJoin u) e = absurd (cc e)
took_it w (phase.WaitPar a b) e = absurd (cc e)
took_it w (phase.GotPar a b) e = absurd (cc e)
took_it w phase.Over e = absurd (cc e)

-- where its place leads where it led, and the object lies there still
module _ (k z : Cluster) (h : HasWords (sight z)) (code : z.code ≡ k.code) (x : Standing) (leads_so : GoesOn k x → (p : Lval) → Follows k x p → LeadsAsItDid k z x.thread.number p)
    (lies_so : (g : GoesOn k x) (w : ℕ) → x.thread.phase ≡ phase.Taken w → (q : Taker k x) → 1 ≤ tot (lies_at x.server q.object) (things_of z))
    (all : Holds k taken_stands) where
  pub stands_on : Among x (sight k).ground.threads → (y : Standing) → Among y (sight z).ground.threads → ((g : Standing → ℕ) → g y ≡ g x) → taken_phase (sight z) y y.thread.phase ≡ 0
  stands_on listed y there same = only_taken (sight z) y y.thread.phase (λ w is.
      let was : x.thread.phase ≡ phase.Taken w = took_it w x.thread.phase (sym (same (λ q. took w q.thread.phase)) ∙ ap (took w) is ∙ ap one (eq-eqb w w refl)) in
      let g : GoesOn k x = record { among = listed; going = ap is_over was } in
      let q : Taker k x = taker k x w (subst (λ v. taken_phase (sight k) x v ≡ 0) was (none_at (λ v. taken_phase (sight k) v v.thread.phase) x (sight k).ground.threads all listed)) in
      let number : y.thread.number ≡ x.thread.number = same (λ v. v.thread.number) in
      let pc : y.thread.pc ≡ x.thread.pc = same (λ v. v.thread.pc) in
      let server : y.server ≡ x.server = same (λ v. v.server) in
      let at : instr_of (sight z) y ≡ Some (instr.BorrowMut q.place) = ap (λ cs. slice_get cs y.thread.pc) code ∙ ap (slice_get k.code) pc ∙ q.at in
      let leads : place_at (sight z).ground y.thread.number q.place ≡ Some (in_cell q.object) =
      ap (λ n. place_at (sight z).ground n q.place) number ∙ leads_so g q.place (writes (instr.BorrowMut q.place) q.at lends_to) q.place.depth (omega arith) ∙ q.leads in
      stands_so z h y w q.place q.object there is at leads (subst (λ r. 1 ≤ tot (lies_at r q.object) (things_of z)) (sym server) (lies_so g w was q)))
