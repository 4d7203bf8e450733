-- What was issued is issued, where objects have their words and addresses are as they were; so each word that stood is.
use Rattle.std.proofs.Common.{◌≡◌, inl, inr, ⊎_elim, ℕ, ◌+◌, ◌≤◌, ◌&&◌, ◌||◌, Bool, true, false, if◌then◌else◌, List, [], ◌∷◌, Option, Some, None, refl, sym, ap, subst, ◌∙◌, arith}
use Rattle.law_walks_own.specs.Below.fr_base.declared.name.ObjNo.{ObjNo}
use Rattle.law_walks_own.specs.Below.heap_partition.declared.value.Cell.{Cell}
use Rattle.law_walks_own.specs.Below.heap_partition.declared.value.Owned.{Owned}
use Rattle.law_walks_own.specs.Below.heap_partition.declared.value.Owned.TheVariants as owned
use Rattle.law_walks_own.specs.Below.thread_state.declared.phase.Phase.{Phase}
use Rattle.law_walks_own.specs.Below.thread_state.declared.phase.Phase.TheVariants as phase
use Rattle.law_walks_own.specs.Below.server_msgs.declared.message.Message.{Message}
use Rattle.law_walks_own.specs.Below.server_msgs.declared.message.Message.TheVariants as message
use Rattle.law_walks_own.specs.Below.server_model.Servers.{Cluster}
use Rattle.law_walks_own.specs.Below.coherent_memory.Names.{tot, one, other, same_object, Among}
use Rattle.law_walks_own.specs.Below.coherent_memory.Things.{Thing, holds, shares, borrows, lies, flies, vacant, retired, copied, uses, sent, stands, things_of}
use Rattle.law_walks_own.specs.Below.coherent_memory.Sight.{Pointer, is_spot, colour_up_to, word_of_object, is_issued_at, is_issued, issued, sight}
use Rattle.law_walks_own.specs.Below.coherent_memory.Placing.{owned_word, message_word, phase_word, words}
use Rattle.law_walks_own.specs.Below.coherent_memory.Words.{all_pointers, IsStale, HasWords, WordsLaw}
use Rattle.law_walks_own.specs.Below.coherent_memory.Coherent.{Holds, are_issued}
use Rattle.law_walks_own.proofs.Below.coherent_memory.Names.{and_left, and_right}
use Rattle.law_walks_own.proofs.Below.coherent_memory.Words.{named, fresh_from, told, words_law}
use Rattle.law_walks_own.proofs.Below.law_counts_sums.Boxes.{tot_le}
use Rattle.law_walks_own.specs.Below.law_words_paths.words.Unmoved.{WordsStay}
use Rattle.law_words_issued.proofs.stands.Elsewhere.{NoAddress, SeesAddresses}

-- WEIGHTS OF WORDS

owned_less : (g h : ℕ → ℕ) → ((v : ℕ) → g v ≤ h v) → (v : Owned) → owned_word g v ≤ owned_word h v
owned_less g h l (owned.Box p) = l p.word
owned_less g h l v = omega arith

message_less : (g h : ℕ → ℕ) → ((v : ℕ) → g v ≤ h v) → (m : Message) → message_word g m ≤ message_word h m
message_less g h l (message.Fetch w o s t) = l w
message_less g h l (message.Fetched w c t) = omega (arith, l w, owned_less g h l c.value)
message_less g h l (message.Move w o s t) = l w
message_less g h l (message.Drop w o) = l w
message_less g h l m = omega arith

phase_less : (g h : ℕ → ℕ) → ((v : ℕ) → g v ≤ h v) → (p : Phase) → phase_word g p ≤ phase_word h p
phase_less g h l (phase.WaitCell w) = l w
phase_less g h l (phase.Taken w) = l w
phase_less g h l p = omega arith

-- where each word weighs less, so does each thing
words_less : (g h : ℕ → ℕ) → ((v : ℕ) → g v ≤ h v) → (x : Thing) → words g x ≤ words h x
words_less g h l (holds p v) = owned_less g h l v
words_less g h l (shares p r) = l r.word
words_less g h l (borrows p r) = omega (arith, l r.word, l r.first)
words_less g h l (lies r a c) = owned_less g h l c.value
words_less g h l (flies w c) = omega (arith, l w, owned_less g h l c.value)
words_less g h l (copied r c) = omega (arith, l c.word, owned_less g h l c.cell.value)
words_less g h l (uses r w) = l w
words_less g h l (sent r m) = message_less g h l m
words_less g h l (stands r p t) = phase_less g h l t.phase
words_less g h l x = omega arith

-- ISSUED AT A THING

-- it weighs something where the word was issued there
abbrev pub issuing : ℕ → List Pointer → ℕ → Thing → ℕ
issuing colours ps w x = one (is_issued_at colours ps w x)

pub sees_addresses : (colours : ℕ) (ps : List Pointer) (w : ℕ) → SeesAddresses (issuing colours ps w)
sees_addresses colours ps w = record { nothing = blank; object = λ s a c d e. ap (λ o. one (is_spot s a w && colour_up_to (word_of_object ps o) w)) e }
  where
    blank : (x : Thing) → NoAddress x → issuing colours ps w x ≡ 0
    blank (lies s a c) h = absurd h
    blank (vacant s a n) h = absurd h
    blank (retired s a) h = absurd h
    blank x h = refl

some_issued : (colours : ℕ) (ps : List Pointer) (w : ℕ) (b : List Thing) → is_issued colours ps b w ≡ true → 1 ≤ tot (issuing colours ps w) b
some_issued colours ps w [] e = absurd (cc e)
some_issued colours ps w (x ∷ b) e = by (is_issued_at colours ps w x) (some_issued colours ps w b) e
  where
    by : (q : Bool) → (is_issued colours ps b w ≡ true → 1 ≤ tot (issuing colours ps w) b) → (q || is_issued colours ps b w) ≡ true → 1 ≤ one q + tot (issuing colours ps w) b
    by true go d = omega arith
    by false go d = omega (arith, go d)

-- where things that issue the word issue it by other pointers too
issued_so : (colours : ℕ) (ps qs : List Pointer) (w : ℕ) (b : List Thing) → ((x : Thing) → Among x b → is_issued_at colours ps w x ≡ true → is_issued_at colours qs w x ≡ true) → 1 ≤ tot (issuing colours ps w) b → is_issued colours qs b w ≡ true
issued_so colours ps qs w [] f l = absurd (omega (arith, l))
issued_so colours ps qs w (x ∷ b) f l = by (is_issued_at colours ps w x) refl (issued_so colours ps qs w b (λ y h. f y (inr h))) l
  where
    later : (q : Bool) → is_issued colours qs b w ≡ true → (q || is_issued colours qs b w) ≡ true
    later true e = refl
    later false e = e

    by : (q : Bool) → is_issued_at colours ps w x ≡ q → (1 ≤ tot (issuing colours ps w) b → is_issued colours qs b w ≡ true) → 1 ≤ one q + tot (issuing colours ps w) b → (is_issued_at colours qs w x || is_issued colours qs b w) ≡ true
    by true e go m = ap (λ q. q || is_issued colours qs b w) (f x (inl refl) e)
    by false e go m = later (is_issued_at colours qs w x) (go (omega (arith, m)))

-- THE WORD OF AN OBJECT

-- the first pointer to it
record Told (ps : List Pointer) (o : ObjNo) (u : ℕ) : Type 0 where
  pointer : Pointer
  among : Among pointer ps
  object : pointer.object ≡ o
  word : pointer.word ≡ u

told_by : (ps : List Pointer) (o : ObjNo) (u : ℕ) → word_of_object ps o ≡ Some u → Told ps o u
told_by [] o u e = absurd (cc e)
told_by (p ∷ ps) o u e = by (same_object p.object o) refl (told_by ps o u) e
  where
    by : (q : Bool) → same_object p.object o ≡ q → (word_of_object ps o ≡ Some u → Told ps o u) → (if q then Some p.word else word_of_object ps o) ≡ Some u → Told (p ∷ ps) o u
    by true s go d = record { pointer = p; among = inl refl; object = named p.object o s; word = (let w : p.word ≡ u = cc in w) }
    by false s go d = let t = go d in record { pointer = t.pointer; among = inr t.among; object = t.object; word = t.word }

has_word : (o : Option ℕ) (w : ℕ) → colour_up_to o w ≡ true → (u : ℕ) × (o ≡ Some u)
has_word None w e = absurd (cc e)
has_word (Some u) w e = (u, refl)

-- a pointer that isn't stale has its object's word
fresh_word : (k : Cluster) (h : HasWords (sight k)) (p : Pointer) → Among p (sight k).pointers → p.word ≡ h.word p.object
fresh_word k h p among =
    let f = fresh_from (sight k).stale p (all_pointers (sight k)) among in
    ⊎_elim (λ (s : IsStale (sight k) p.at). (let t : true ≡ false = sym (told k p.at s) ∙ f.fresh in absurd (cc t))) (λ (e : p.word ≡ h.word p.object). e) (h.same p f.among)

module _ (k d : Cluster) (before : HasWords (sight k)) (stay : WordsStay (sight k) (sight d) before) where
  -- where an object lies, that tells the word that was told
  same_told : (s a : ℕ) (c : Cell) → Among (lies s a c) (things_of d) → (u : ℕ) → word_of_object (sight k).pointers c.object ≡ Some u → word_of_object (sight d).pointers c.object ≡ Some u
  same_told s a c h u e =
      let law : WordsLaw = words_law in
      let after = stay.after in
      let t = told_by (sight k).pointers c.object u e in
      let was : u ≡ before.word c.object = sym t.word ∙ fresh_word k before t.pointer t.among ∙ ap before.word t.object in
      law.first_tells d after c.object (after.live s a c h) ∙ ap Some (stay.same c.object ∙ sym was)

  -- a thing that issued a word issues it
  still_issued : (w : ℕ) (x : Thing) → Among x (things_of d) → is_issued_at k.options.colours (sight k).pointers w x ≡ true → is_issued_at k.options.colours (sight d).pointers w x ≡ true
  still_issued w (lies s a c) h e =
      let spot = and_left (is_spot s a w) (colour_up_to (word_of_object (sight k).pointers c.object) w) e in
      let up = and_right (is_spot s a w) (colour_up_to (word_of_object (sight k).pointers c.object) w) e in
      let u = has_word (word_of_object (sight k).pointers c.object) w up in
      let same = same_told s a c h u.0 u.1 in
      ap (λ q. q && colour_up_to (word_of_object (sight d).pointers c.object) w) spot ∙ ap (λ o. colour_up_to o w) (same ∙ sym u.1) ∙ up
  still_issued w (vacant s a n) h e = e
  still_issued w (retired s a) h e = e
  still_issued w x h e = absurd (cc e)

  module _ (options : d.options ≡ k.options) (addresses : (w : ℕ) → tot (issuing k.options.colours (sight k).pointers w) (things_of k) ≤ tot (issuing k.options.colours (sight k).pointers w) (things_of d)) where
    -- a word that was issued is issued
    pub issued_goes : (w : ℕ) → issued (sight k) w ≡ true → issued (sight d) w ≡ true
    issued_goes w e =
        subst (λ o. is_issued o.colours (sight d).pointers (things_of d) w ≡ true) (sym options)
        (issued_so k.options.colours (sight k).pointers (sight d).pointers w (things_of d) (still_issued w) (omega (arith, some_issued k.options.colours (sight k).pointers w (things_of k) e, addresses w)))

    less : (w : ℕ) → other (issued (sight d) w) ≤ other (issued (sight k) w)
    less w = by (issued (sight k) w) refl
      where
        by : (q : Bool) → issued (sight k) w ≡ q → other (issued (sight d) w) ≤ other q
        by true e = omega (arith, ap other (issued_goes w e))
        by false e = at_most (issued (sight d) w)
          where
            at_most : (q : Bool) → other q ≤ 1
            at_most true = omega arith
            at_most false = omega arith

    -- so each word that stands was issued, where it had been
    pub issued_kept : tot (words (λ w. other (issued (sight k) w))) (things_of d) ≡ 0 → Holds d are_issued
    issued_kept z = omega (arith, z, tot_le (words (λ w. other (issued (sight d) w))) (words (λ w. other (issued (sight k) w))) (words_less (λ w. other (issued (sight d) w)) (λ w. other (issued (sight k) w)) less) (things_of d))
