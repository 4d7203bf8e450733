-- An object is asked for by a thread that waits for it alone, and in whose slots it is; so none is asked for that a thread has taken.
use Rattle.std.proofs.Common.{◌≡◌, inl, ℕ, ◌*◌, ◌+◌, ◌≤◌, ◌==◌, ◌&&◌, not, Bool, true, false, List, [], ◌∷◌, Option, Some, None, refl, sym, ap, subst, ◌∙◌, arith}
use Rattle.std.proofs.lemmas.Bool.{eqb-true, eq-eqb}
use Rattle.law_words_ends.specs.Below.fr_base.declared.name.ObjNo.{ObjNo}
use Rattle.law_words_ends.specs.Below.fr_base.declared.place.Lval.{Lval}
use Rattle.law_words_ends.specs.Below.fr_base.declared.instruction.Instr.{Instr}
use Rattle.law_words_ends.specs.Below.fr_store.Keys.{slot_k}
use Rattle.law_words_ends.specs.Below.fr_store.Store.{at_key, at_object, Store, walk, below_key}
use Rattle.law_words_ends.specs.Below.fr_store.Typed.{KeyTypes}
use Rattle.law_words_ends.proofs.Below.fr_store.Sound.{sound as sound_path}
use Rattle.law_words_ends.specs.Below.thread_state.View.{is_over}
use Rattle.law_words_ends.specs.Below.thread_state.declared.phase.Phase.{Phase}
use Rattle.law_words_ends.specs.Below.thread_state.declared.phase.Phase.TheVariants as phase
use Rattle.law_words_ends.specs.Below.server_msgs.declared.message.Message.{Message}
use Rattle.law_words_ends.specs.Below.server_msgs.declared.message.Message.TheVariants as message
use Rattle.law_words_ends.specs.Below.server_model.Servers.{Cluster}
use Rattle.law_words_ends.specs.Below.coherent_memory.Names.{tot, one, other, if_so, same_object, Among}
use Rattle.law_words_ends.specs.Below.coherent_memory.Things.{in_cell, Thing, sent, things_of}
use Rattle.law_words_ends.specs.Below.coherent_memory.Follow.{Standing, Ground, thread_at, place_at}
use Rattle.law_words_ends.specs.Below.coherent_memory.Sight.{sight}
use Rattle.law_words_ends.specs.Below.coherent_memory.Walking.{path, instr_of, asked_for, asks_for}
use Rattle.law_words_ends.specs.Below.coherent_memory.Requests.{halves, halves_to, message_answer, is_cell, in_phase, carries}
use Rattle.law_words_ends.specs.Below.coherent_memory.Coherent.{IsSound}
use Rattle.law_words_ends.proofs.Below.coherent_memory.Names.{and_left, and_right}
use Rattle.law_words_ends.proofs.Below.coherent_memory.Words.{named, none_at}
use Rattle.law_words_ends.specs.Below.law_words_paths.paths.HeapStore.{heap_store, GoesOn, HasPaths}
use Rattle.law_words_ends.specs.Below.law_words_paths.paths.Pointing.{MayWrite, WritesTo}
use Rattle.law_words_ends.proofs.Below.law_words_paths.paths.Alike.{leads_in_heap}
use Rattle.law_words_ends.proofs.Below.law_words_paths.paths.Contained.{among_thread}
use Rattle.law_words_ends.proofs.Below.law_words_paths.paths.MayWrites.{may_write_there}
use Rattle.law_words_ends.proofs.Below.law_words_paths.paths.Shown.{stands_there}
use Rattle.law_words_ends.proofs.Below.law_words_paths.paths.Sole.{some_is}
use Rattle.law_words_ends.proofs.Below.law_results_reads.Alone.{needed_less}
use Rattle.law_words_ends.proofs.Below.law_results_reads.Awaits.{awaited_mine}
use Rattle.law_words_ends.proofs.Below.law_results_reads.Made.{OwnedBy}
use Rattle.law_words_ends.proofs.Below.law_results_reads.Near.{base_mine, one_reaches}

-- ONE ANSWER

module _ (t : ℕ) (a : Rattle.law_words_ends.specs.Below.coherent_memory.Paths.Awaited) where
  -- a message that asks for an object for the thread without being what it asks for
  abbrev strays_in : Message → ℕ
  strays_in (message.Move w p r u) = one ((u == t) && not (asks_for t a (message.Move w p r u)))
  strays_in m = 0

  abbrev strays : Thing → ℕ
  strays (sent r m) = strays_in m
  strays x = 0

  asked_less : (p q r : Bool) → 2 * one ((p && q) && r) ≤ if_so p 2
  asked_less true q r = by (q && r)
    where
      by : (b : Bool) → 2 * one b ≤ 2
      by true = omega arith
      by false = omega arith
  asked_less false q r = omega arith

  stray_less : (p q r : Bool) → 2 * one ((p && q) && r) + 2 * one (p && not ((p && q) && r)) ≤ if_so p 2
  stray_less true q r = by (q && r)
    where
      by : (b : Bool) → 2 * one b + 2 * one (not b) ≤ 2
      by true = omega arith
      by false = omega arith
  stray_less false q r = omega arith

  message_counts : (m : Message) → 2 * one (asks_for t a m) + 2 * strays_in m ≤ halves t (message_answer m)
  message_counts (message.Fetch w p s u) = omega (arith, asked_less (u == t) (not a.comes) (a.word == w && same_object p a.object))
  message_counts (message.Fetched w c u) = omega (arith, asked_less (u == t) (not a.comes) (a.word == w && same_object c.object a.object))
  message_counts (message.Move w p s u) = stray_less (u == t) a.comes (a.word == w && same_object p a.object)
  message_counts (message.Moved w c u) = omega (arith, asked_less (u == t) a.comes (a.word == w && same_object c.object a.object))
  message_counts _ = omega arith

  counts_less : (x : Thing) → 2 * asked_for t a x + 2 * strays x ≤ halves_to t x
  counts_less (sent r m) = message_counts m
  counts_less _ = omega arith

  all_less : (b : List Thing) → 2 * tot (asked_for t a) b + 2 * tot strays b ≤ tot (halves_to t) b
  all_less [] = omega arith
  all_less (x ∷ b) = omega (arith, counts_less x, all_less b)

-- what is no stray is what the thread asks for
own_asked : (t : ℕ) (q : Bool) → one ((t == t) && not q) ≡ 0 → q ≡ true
own_asked t q z = by q (subst (λ b. one (b && not q) ≡ 0) (eq-eqb t t refl) z)
  where
    by : (b : Bool) → one (true && not b) ≡ 0 → b ≡ true
    by true e = refl
    by false e = absurd (cc e)

standing_of : (f : Phase → Bool) (o : Option Standing) → in_phase f o ≡ true → (x : Standing) × (o ≡ Some x) × (f x.thread.phase ≡ true)
standing_of f None e = absurd (cc e)
standing_of f (Some x) e = (x, refl, e)

other_none : (b : Bool) → other b ≡ 0 → b ≡ true
other_none true e = refl
other_none false e = absurd (cc e)

is_waiting : (p : Phase) (w : ℕ) → is_cell w p ≡ true → p ≡ phase.WaitCell w
is_waiting (phase.WaitCell v) w e = ap phase.WaitCell (eqb-true v w e)
is_waiting _ w e = absurd (cc e)

-- a thread that waits for the object
pub record Asks (k : Cluster) (c : HasPaths k) (o : ObjNo) : Type 0 where
  pub thread : Standing
  pub goes : GoesOn k thread
  pub word : ℕ
  pub waits_there : thread.thread.phase ≡ phase.WaitCell word
  pub owned_there : OwnedBy k c thread.thread.number o

-- where it is asked for, one does
pub asks_it : (k : Cluster) (c : HasPaths k) → IsSound k → (n w : ℕ) (o : ObjNo) (r t : ℕ) → Among (sent n (message.Move w o r t)) (things_of k) → Asks k c o
asks_it k c sound n w o r t i =
    let m : Message = message.Move w o r t in
    let ground : Ground = (sight k).ground in
    let carried : other (in_phase (is_cell w) (thread_at ground.threads t)) ≡ 0 = none_at (carries (sight k)) (sent n m) (things_of k) sound.requests.carry_what_is_asked i in
    let z = standing_of (is_cell w) (thread_at ground.threads t) (other_none _ carried) in
    let among = among_thread ground.threads t z.0 z.1 in
    let waits_now = is_waiting z.0.thread.phase w z.2 in
    let goes : GoesOn k z.0 = record { among = among.0; going = ap is_over waits_now } in
    let turn = sound.walks.wait_in_turn z.0 w among.0 waits_now in
    let a = turn.awaited in
    let asked : 1 ≤ tot (asked_for t a) (things_of k) = subst (λ q. 1 ≤ tot (asked_for q a) (things_of k)) among.1 turn.asked in
    let none : tot (strays t a) (things_of k) ≡ 0 = omega (arith, asked, all_less t a (things_of k), sound.requests.one_answer t, needed_less t a o (things_of k), sound.names.numbers_differ t) in
    let its : one ((t == t) && not (asks_for t a m)) ≡ 0 = none_at (strays t a) (sent n m) (things_of k) none i in
    let asks : ((t == t && a.comes) && (a.word == w && same_object o a.object)) ≡ true = own_asked t (asks_for t a m) its in
    let object : a.object ≡ o = sym (named o a.object (and_right (a.word == w) (same_object o a.object) (and_right (t == t && a.comes) (a.word == w && same_object o a.object) asks))) in
    record {
      thread = z.0;
      goes = goes;
      word = w;
      waits_there = waits_now;
      owned_there = subst (OwnedBy k c z.0.thread.number) object (awaited_mine k c z.0 goes (path (sight k) z.0) refl w a (and_right (t == t) a.comes (and_left (t == t && a.comes) (a.word == w && same_object o a.object) asks)) turn.turn);
    }

-- the place that another thread writes doesn't lead to it
pub asked_apart : (k : Cluster) (c : HasPaths k) (o : ObjNo) → Asks k c o → (x : Standing) (g : GoesOn k x) (i : Instr) (w : Lval) → instr_of (sight k) x ≡ Some i → WritesTo i w → ((v : ℕ) → x.thread.phase ≡ phase.WaitCell v → ⊥) → place_at (sight k).ground x.thread.number w ≡ Some (in_cell o) → ⊥
asked_apart k c o q x g i w at writes idle leads =
    let st : Store = heap_store k c.types in
    let E : KeyTypes = c.types.typing.exact in
    let z = q.thread in
    let t = x.thread.number in
    let may : MayWrite k c.types x w = may_write_there k c x g i w at writes in
    let b = base_mine k c t true (slot_k t w.slot) w.depth may.base may.boxes may.type (t, refl, inl refl) may.resolves in
    let there : walk st w.depth (at_key (slot_k t w.slot)) ≡ Some (at_object o) = (leads_in_heap k c x g w.slot w.depth (in_cell o) leads).0 in
    let chain : below_key st may.base may.boxes ≡ Some (at_object o) = sym (sound_path c.types.typing.rank E st c.types.state.typed true (slot_k t w.slot) w.depth may.base may.boxes may.type may.resolves) ∙ there in
    let one = one_reaches k c t z q.goes (λ d f e. (let no : phase.WaitCell q.word ≡ phase.WaitPar d f = sym q.waits_there ∙ e in cc no)) (λ d f e. (let no : phase.WaitCell q.word ≡ phase.GotPar d f = sym q.waits_there ∙ e in cc no)) o may.base may.boxes b chain q.owned_there in
    let same : z ≡ x = some_is (sym (stands_there k c z q.goes) ∙ ap (thread_at (sight k).ground.threads) one ∙ stands_there k c x g) in
    idle q.word (ap (λ (u : Standing). u.thread.phase) (sym same) ∙ q.waits_there)
