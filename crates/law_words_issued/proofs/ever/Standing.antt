-- Each word that stands anywhere was issued, thing by thing.
use Rattle.std.proofs.Common.{◌≡◌, inl, inr, ℕ, zero, suc, ◌+◌, ◌≤◌, ◌==◌, ◌&&◌, Bool, true, false, not, Option, Some, None, refl, sym, ap, subst, ◌∙◌, arith}
use Rattle.std.proofs.lemmas.Bool.{eq-eqb}
use Rattle.law_words_issued.specs.Below.fr_base.declared.name.ObjNo.{ObjNo}
use Rattle.law_words_issued.specs.Below.fr_base.declared.place.Lval.{Lval}
use Rattle.law_words_issued.specs.Below.global_addr.Words.{server_of, address_of}
use Rattle.law_words_issued.specs.Below.heap_partition.declared.value.Cell.{Cell}
use Rattle.law_words_issued.specs.Below.heap_partition.declared.value.Owned.{Owned}
use Rattle.law_words_issued.specs.Below.heap_partition.declared.value.Owned.TheVariants as owned
use Rattle.law_words_issued.specs.Below.thread_state.declared.phase.Phase.{Phase}
use Rattle.law_words_issued.specs.Below.thread_state.declared.phase.Phase.TheVariants as phase
use Rattle.law_words_issued.specs.Below.server_msgs.declared.message.Message.{Message}
use Rattle.law_words_issued.specs.Below.server_msgs.declared.message.Message.TheVariants as message
use Rattle.law_words_issued.specs.Below.server_model.Servers.{Cluster}
use Rattle.law_words_issued.specs.Below.coherent_memory.Names.{Among, tot, one, if_so, some, same_object}
use Rattle.law_words_issued.specs.Below.coherent_memory.Things.{Location, at_slot, at_temp, in_cell, Thing, holds, shares, borrows, lies, flies, copied, uses, sent, stands, things_of}
use Rattle.law_words_issued.specs.Below.coherent_memory.Follow.{Standing, Ground, place_at}
use Rattle.law_words_issued.specs.Below.coherent_memory.Sight.{Pointer, pointer_in, location_of, pointers_of, is_word, word, sight}
use Rattle.law_words_issued.specs.Below.coherent_memory.Placing.{owned_word, message_word, phase_word, words}
use Rattle.law_words_issued.specs.Below.coherent_memory.Weights.{lies_at, lies_under, uses_of, users_of}
use Rattle.law_words_issued.specs.Below.coherent_memory.Paths.{Awaited}
use Rattle.law_words_issued.specs.Below.coherent_memory.Walking.{instr_of, asks_for, asked_for}
use Rattle.law_words_issued.specs.Below.coherent_memory.Requests.{not_under, not_there, lent_place, lies_here, taken_there, taken_phase}
use Rattle.law_words_issued.proofs.Below.coherent_memory.Bags.{an_object, loose, content_held, cluster_whole}
use Rattle.law_words_issued.proofs.Below.coherent_memory.Names.{and_left, and_right, same_number}
use Rattle.law_words_issued.proofs.Below.coherent_memory.Words.{none_at, none_all, named, itself, words_law}
use Rattle.law_words_issued.proofs.Below.law_counts_sums.Askers.{other_none}
use Rattle.law_words_issued.proofs.Below.law_words_paths.words.Standing.{lying, pointers_among}
use Rattle.law_words_issued.proofs.Below.law_words_kept.reads.Flights.{found, truly}
use Rattle.law_words_issued.proofs.Below.law_counts_waiting.waits.Found.{among_weighs, standing_listed}
use Rattle.law_words_issued.specs.old.Old.{unissued, first_words}
use Rattle.law_words_issued.specs.stays.Issued.{copied_words}
use Rattle.law_words_issued.specs.ever.Standing.{flown_words, FormerWords, Settled, IssuedFollows}
use Rattle.law_words_issued.proofs.ever.Live.{alive}
use Rattle.law_words_issued.proofs.ever.Stale.{pointer_issued}

some_one : (n : ℕ) → some n ≡ true → 1 ≤ n
some_one zero e = absurd (cc e)
some_one (suc n) e = omega arith

if_truly : (b : Bool) (n : ℕ) → 1 ≤ if_so b n → b ≡ true
if_truly true n l = refl
if_truly false n l = absurd (omega (arith, l))

-- where the word of a box weighs nothing that of the value does
box_weighs : (f : ℕ → ℕ) (l : Option Location) (v : Owned) → ((q : Pointer) → Among q (pointer_in l v) → f q.word ≡ 0) → owned_word f v ≡ 0
box_weighs f l (owned.Box b) h = h (record { at = l; word = b.word; object = b.object }) (inl refl)
box_weighs f l _ h = refl

module _ (k : Cluster) (s : Settled k) (old : FormerWords (unissued k) (sight k)) where
  abbrev f : ℕ → ℕ
  f = unissued k

  abbrev g : Ground
  g = (sight k).ground

  -- the word of an object that lies somewhere
  of_word : (o : ObjNo) (w : ℕ) → is_word (word (sight k) o) w ≡ true → (r a : ℕ) (c : Cell) → Among (lies r a c) (things_of k) → c.object ≡ o → f w ≡ 0
  of_word o w is r a c m same =
      let told : word (sight k) c.object ≡ Some (s.has_words.word c.object) = words_law.first_tells k s.has_words c.object (s.has_words.live r a c m) in
      let one_word : (s.has_words.word c.object == w) ≡ true = sym (ap (λ v. is_word v w) told) ∙ ap (λ q. is_word (word (sight k) q) w) same ∙ is in
      subst (λ v. f v ≡ 0) (same_number (s.has_words.word c.object) w one_word) (alive k s old c (lies r a c) (lying r a) m)

  -- REQUESTS

  under : (w : ℕ) (o : ObjNo) → not_under (sight k) w o ≡ 0 → f w ≡ 0
  under w o z = let it = found (lies_under w o) (things_of k) (some_one (tot (lies_under w o) (things_of k)) (and_right (is_word (word (sight k) o) w) (some (tot (lies_under w o) (things_of k))) both)) in by it.0 it.1 it.2
    where
      both : (is_word (word (sight k) o) w && some (tot (lies_under w o) (things_of k))) ≡ true
      both = other_none (is_word (word (sight k) o) w && some (tot (lies_under w o) (things_of k))) z

      by : (y : Thing) → Among y (things_of k) → 1 ≤ lies_under w o y → f w ≡ 0
      by (lies r a c) h l =
          let t = truly ((server_of w == r && address_of w == a) && same_object c.object o) l in
          of_word o w (and_left (is_word (word (sight k) o) w) (some (tot (lies_under w o) (things_of k))) both) r a c h (named c.object o (and_right (server_of w == r && address_of w == a) (same_object c.object o) t))
      by _ h l = absurd (omega (arith, l))

  flown : (r v : ℕ) (c : Cell) (u : ℕ) → Among (sent r (message.Moved v c u)) (things_of k) → f v ≡ 0
  flown r v c u h =
      let same : (v == v) ≡ true = eq-eqb v v refl in
      let here : one (v == v && same_object c.object c.object) ≡ 1 = rw same (ap one (itself c.object c.object refl)) in
      let m = an_object v c.object in
      let it = found (content_held m) (things_of k) (omega (arith, here, among_weighs (loose m) (sent r (message.Moved v c u)) (things_of k) h, (cluster_whole k).held m)) in
      by it.0 it.1 it.2
    where
      by : (y : Thing) → Among y (things_of k) → 1 ≤ content_held (an_object v c.object) y → f v ≡ 0
      by (flies x d) m l =
          let t = truly (x == v && same_object d.object c.object) l in
          subst (λ w. f w ≡ 0) (same_number x v (and_left (x == v) (same_object d.object c.object) t)) (none_at (flown_words f) (flies x d) (things_of k) old.flights m)
      by (holds p z) m l = absurd (omega (arith, l))
      by _ m l = absurd (omega (arith, l))

  of_message : (r : ℕ) (m : Message) → Among (sent r m) (things_of k) → message_word f m ≡ 0
  of_message r (message.Fetch w o a t) h = under w o (none_at (not_there (sight k)) (sent r (message.Fetch w o a t)) (things_of k) s.objects_there h)
  of_message r (message.Move w o a t) h = under w o (none_at (not_there (sight k)) (sent r (message.Move w o a t)) (things_of k) s.objects_there h)
  of_message r (message.Drop w o) h = under w o (none_at (not_there (sight k)) (sent r (message.Drop w o)) (things_of k) s.objects_there h)
  of_message r (message.Fetched w c t) h = none_at (copied_words f) (sent r (message.Fetched w c t)) (things_of k) old.copies h
  of_message r _ h = refl

  -- USES OF COPIES

  of_use : (r w : ℕ) → Among (uses r w) (things_of k) → f w ≡ 0
  of_use r w h =
      let first : (r == r) ≡ true = eq-eqb r r refl in
      let second : (w == w) ≡ true = eq-eqb w w refl in
      let here : one (r == r && w == w) ≡ 1 = rw first (rw second refl) in
      let it = found (users_of (r, w)) (things_of k) (omega (arith, here, among_weighs (uses_of (r, w)) (uses r w) (things_of k) h, s.users.users_counted (r, w))) in
      by it.0 it.1 it.2
    where
      by : (y : Thing) → Among y (things_of k) → 1 ≤ users_of (r, w) y → f w ≡ 0
      by (copied a c) m l =
          let same : c.word ≡ w = same_number c.word w (and_right (a == r) (c.word == w) (if_truly (a == r && c.word == w) c.users l)) in
          let none : f c.word + owned_word f c.cell.value ≡ 0 = none_at (copied_words f) (copied a c) (things_of k) old.copies m in
          subst (λ v. f v ≡ 0) same (omega (arith, none))
      by _ m l = absurd (omega (arith, l))

  -- PHASES

  asked : (t : ℕ) (a : Awaited) (r : ℕ) (m : Message) → Among (sent r m) (things_of k) → asks_for t a m ≡ true → f a.word ≡ 0
  asked t a r (message.Fetch v o q u) h e =
      let y = and_right (u == t && not a.comes) (a.word == v && same_object o a.object) e in
      subst (λ w. f w ≡ 0) (sym (same_number a.word v (and_left (a.word == v) (same_object o a.object) y))) (of_message r (message.Fetch v o q u) h)
  asked t a r (message.Move v o q u) h e =
      let y = and_right (u == t && a.comes) (a.word == v && same_object o a.object) e in
      subst (λ w. f w ≡ 0) (sym (same_number a.word v (and_left (a.word == v) (same_object o a.object) y))) (of_message r (message.Move v o q u) h)
  asked t a r (message.Fetched v c u) h e =
      let y = and_right (u == t && not a.comes) (a.word == v && same_object c.object a.object) e in
      let none : f v + owned_word f c.value ≡ 0 = of_message r (message.Fetched v c u) h in
      let first : f v ≡ 0 = omega (arith, none) in
      subst (λ w. f w ≡ 0) (sym (same_number a.word v (and_left (a.word == v) (same_object c.object a.object) y))) first
  asked t a r (message.Moved v c u) h e =
      let y = and_right (u == t && a.comes) (a.word == v && same_object c.object a.object) e in
      subst (λ w. f w ≡ 0) (sym (same_number a.word v (and_left (a.word == v) (same_object c.object a.object) y))) (flown r v c u h)
  asked t a r _ h e = absurd (cc e)

  awaited : (t : ℕ) (a : Awaited) (y : Thing) → Among y (things_of k) → 1 ≤ asked_for t a y → f a.word ≡ 0
  awaited t a (sent r m) h l = asked t a r m h (truly (asks_for t a m) l)
  awaited t a _ h l = absurd (omega (arith, l))

  -- what a thread has taken lies at its server
  at_place : (r w : ℕ) (l : Option Location) → lies_here (sight k) r w l ≡ true → f w ≡ 0
  at_place r w (Some (in_cell o)) e = let it = found (lies_at r o) (things_of k) (some_one (tot (lies_at r o) (things_of k)) (and_right (is_word (word (sight k) o) w) (some (tot (lies_at r o) (things_of k))) e)) in by it.0 it.1 it.2
    where
      by : (y : Thing) → Among y (things_of k) → 1 ≤ lies_at r o y → f w ≡ 0
      by (lies n a c) h l = of_word o w (and_left (is_word (word (sight k) o) w) (some (tot (lies_at r o) (things_of k))) e) n a c h (named c.object o (and_right (n == r) (same_object c.object o) (truly (n == r && same_object c.object o) l)))
      by _ h l = absurd (omega (arith, l))
  at_place r w (Some (at_slot t i)) e = absurd (cc e)
  at_place r w (Some (at_temp t i)) e = absurd (cc e)
  at_place r w None e = absurd (cc e)

  taken_by : (x : Standing) (w : ℕ) (o : Option Lval) → taken_there (sight k) x w o ≡ 0 → f w ≡ 0
  taken_by x w None z = absurd (cc z)
  taken_by x w (Some p) z = let l = place_at g x.thread.number p in at_place x.server w l (other_none (lies_here (sight k) x.server w l) z)

  of_phase : (x : Standing) (p : Phase) → Among x g.threads → x.thread.phase ≡ p → phase_word f p ≡ 0
  of_phase x (phase.WaitCell w) h e =
      let q = s.wait_in_turn x w h e in
      let it = found (asked_for x.thread.number q.awaited) (things_of k) q.asked in
      subst (λ v. f v ≡ 0) q.word (awaited x.thread.number q.awaited it.0 it.1 it.2)
  of_phase x (phase.Taken w) h e = taken_by x w (lent_place (instr_of (sight k) x)) (subst (λ p. taken_phase (sight k) x p ≡ 0) e (none_at (λ (y : Standing). taken_phase (sight k) y y.thread.phase) x g.threads s.taken_stands h))
  of_phase x _ h e = refl

  -- THINGS

  -- a value in a thing of which its box is a pointer
  of_value : (l : Option Location) (v : Owned) (y : Thing) → Among y (things_of k) → ((q : Pointer) → Among q (pointer_in l v) → Among q (pointers_of y)) → owned_word f v ≡ 0
  of_value l v y h go = box_weighs f l v (λ q m. pointer_issued k s old q (pointers_among q y (things_of k) h (go q m)))

  of_thing : (y : Thing) → Among y (things_of k) → words f y ≡ 0
  of_thing (holds p v) h = of_value (location_of p) v (holds p v) h (λ q m. m)
  of_thing (shares l r) h = let q : Pointer = record { at = None; word = r.word; object = r.object } in pointer_issued k s old q (pointers_among q (shares l r) (things_of k) h (inl refl))
  of_thing (borrows l r) h =
      let q : Pointer = record { at = Some l; word = r.word; object = r.object } in
      let now = pointer_issued k s old q (pointers_among q (borrows l r) (things_of k) h (inl refl)) in
      let first : f r.first ≡ 0 = none_at (first_words f) (borrows l r) (things_of k) old.firsts h in
      omega (arith, now, first)
  of_thing (lies r a c) h = of_value (Some (in_cell c.object)) c.value (lies r a c) h (λ q m. m)
  of_thing (flies w c) h =
      let inner = of_value (Some (in_cell c.object)) c.value (flies w c) h (λ q m. inr m) in
      let outer : f w ≡ 0 = none_at (flown_words f) (flies w c) (things_of k) old.flights h in
      omega (arith, inner, outer)
  of_thing (copied r c) h = none_at (copied_words f) (copied r c) (things_of k) old.copies h
  of_thing (uses r w) h = of_use r w h
  of_thing (sent r m) h = of_message r m h
  of_thing (stands r b t) h = of_phase (record { server = r; packed = b; thread = t }) t.phase (standing_listed r b t (things_of k) h) refl
  of_thing _ h = refl

-- in a settled cluster each word was issued where those of former times were
pub issued_follows : IssuedFollows
issued_follows k s old = none_all (words (unissued k)) (things_of k) (λ y h. of_thing k s old y h)
