-- Live objects: each has a pointer that isn't stale, and so its word.
use Rattle.std.proofs.Common.{◌≡◌, inl, inr, ℕ, zero, suc, ◌+◌, ◌≤◌, ◌&&◌, ◌||◌, Bool, true, false, List, [], ◌∷◌, Option, Some, None, option_map, nat_lt, refl, sym, ap, ap₂, subst, ◌∙◌, arith}
use Rattle.law_words_ends.specs.Below.fr_base.declared.name.ObjNo.{ObjNo}
use Rattle.law_words_ends.specs.Below.fr_base.declared.label.Plain.{Plain}
use Rattle.law_words_ends.specs.Below.global_addr.Words.{colour_of}
use Rattle.law_words_ends.specs.Below.heap_partition.Plain.{plain_of}
use Rattle.law_words_ends.specs.Below.heap_partition.declared.value.Cell.{Cell}
use Rattle.law_words_ends.specs.Below.server_msgs.declared.message.Message.{Message}
use Rattle.law_words_ends.specs.Below.server_msgs.declared.message.Message.TheVariants as message
use Rattle.law_words_ends.specs.Below.server_model.Servers.{Cluster}
use Rattle.law_words_ends.specs.Below.law_words_kept.Below.coloured_heap.Heap.{Place, Lies, Flies}
use Rattle.law_words_ends.specs.Below.coherent_memory.Names.{tot, one, some, same_object, Among}
use Rattle.law_words_ends.specs.Below.coherent_memory.Things.{Thing, lies, flies, sent, vacant, retired, message_things, things_of}
use Rattle.law_words_ends.specs.Below.coherent_memory.Weights.{cells}
use Rattle.law_words_ends.specs.Below.coherent_memory.Sight.{Pointer, pointers_in, taken_pointers, colour_up_to, is_spot, sight, word, is_issued_at, is_issued, issued}
use Rattle.law_words_ends.specs.Below.coherent_memory.Words.{Fresh, HasWords}
use Rattle.law_words_ends.specs.Below.coherent_memory.OneHeap.{first_shown}
use Rattle.law_words_ends.specs.Below.coherent_memory.Colours.{living_of}
use Rattle.law_words_ends.proofs.Below.coherent_memory.Words.{words_law, named}
use Rattle.law_words_ends.proofs.Below.law_words_paths.paths.Origins.{among_first}
use Rattle.law_words_ends.proofs.Below.law_words_kept.reads.Flights.{found, truly}
use Rattle.law_words_ends.specs.Below.law_words_paths.words.Unmoved.{WordsStay}
use Rattle.law_words_ends.proofs.Below.law_words_paths.words.Standing.{CellOf, lying, flying, pointers_among}
use Rattle.law_words_ends.proofs.Below.law_heap_still.events.Told.{told, ones, some_or, tot_same}
use Rattle.law_entries_variables.proofs.deliveries.Weighed.{Seen, Bare, Turned}
use Rattle.law_entries_variables.proofs.deliveries.Carried.{cluster_less, is_sent}
use Rattle.law_entries_variables.proofs.deliveries.Shown.{if_some, placed_in, placings, same_placed, dropped_by, as_living, living_is, shown_after, none_first}

-- THE WORD OF A LIVE OBJECT

record Live (k : Cluster) (o : ObjNo) : Type 0 where
  cell : Cell
  thing : Thing
  is : CellOf cell thing
  among : Among thing (things_of k)
  object : cell.object ≡ o

live_thing : (o : ObjNo) (y : Thing) → 1 ≤ cells o y → (c : Cell) × CellOf c y × (c.object ≡ o)
live_thing o (lies r a c) l = (c, lying r a, named c.object o (truly (same_object c.object o) l))
live_thing o (flies w c) l = (c, flying w, named c.object o (truly (same_object c.object o) l))
live_thing o _ l = absurd (omega (arith, l))

live_found : (k : Cluster) (o : ObjNo) → 1 ≤ tot (cells o) (things_of k) → Live k o
live_found k o l =
    let f = found (cells o) (things_of k) l in
    let x = live_thing o f.0 f.2 in
    record { cell = x.0; thing = f.0; is = x.1; among = f.1; object = x.2 }

module _ (k : Cluster) (h : HasWords (sight k)) where
  fresh_of : (o : ObjNo) → Live k o → Fresh (sight k) o
  fresh_of o x = by x.thing x.is x.among
    where
      by : (y : Thing) → CellOf x.cell y → Among y (things_of k) → Fresh (sight k) o
      by _ (lying r a) m = subst (λ q. Fresh (sight k) q) x.object (h.live r a x.cell m)
      by _ (flying v) m =
          let p : Pointer = record { at = None; word = v; object = x.cell.object } in
          record { pointer = p; among = among_first p (pointers_in (things_of k)) (taken_pointers (sight k).code (sight k).ground (sight k).ground.threads) (pointers_among p (flies v x.cell) (things_of k) m (inl refl)); object = x.object; fresh = λ s. s }

  pub word_told : (o : ObjNo) → 1 ≤ tot (cells o) (things_of k) → word (sight k) o ≡ Some (h.word o)
  word_told o l = words_law.first_tells k h o (fresh_of o (live_found k o l))

-- WHERE OBJECTS ARE

one_shown : (q : Bool) (x : Plain × Place) → told ones (if_some q x) ≡ one q
one_shown true x = refl
one_shown false x = refl

-- an object is shown as often at most as it has cells
module _ (o : ObjNo) where
  abbrev placed_once : Thing → ℕ
  placed_once x = told ones (placed_in o x)

  each_less : (x : Thing) → is_sent x ≡ false → placed_once x ≤ cells o x
  each_less (lies r a c) e = let z = one_shown (same_object c.object o) (plain_of c.value, Lies r) in omega (arith, z)
  each_less (sent r m) e = absurd (cc e)
  each_less (flies w c) e = absurd (cc e)
  each_less _ e = omega arith

  message_less : (n : ℕ) (m : Message) → Bare m → tot placed_once (message_things n m) ≤ tot (cells o) (message_things n m)
  message_less n (message.Moved w c t) b = let z = one_shown (same_object c.object o) (plain_of c.value, Flies n) in omega (arith, z)
  message_less n (message.Start t) b = absurd b
  message_less n (message.Migrate t) b = absurd b
  message_less n (message.Granted m v t) b = omega arith
  message_less n (message.Unlock m v) b = omega arith
  message_less n (message.Joined u v t) b = omega arith
  message_less n (message.Finished u v) b = omega arith
  message_less n _ b = omega arith

  pub placed_cells : (k : Cluster) → tot (λ x. told ones (placed_in o x)) (things_of k) ≤ tot (cells o) (things_of k)
  placed_cells k = cluster_less placed_once (cells o) each_less message_less (λ n t. omega arith) (λ n t. omega arith) k

  -- what the coloured heap sees
  pub placed_seen : (g : Plain × Place → ℕ) → Seen (λ x. told g (placed_in o x))
  placed_seen g = record { held = λ p v. refl; shared = λ l r. refl; lent = λ l r. refl; flown = λ w c. refl; used = λ n w. refl; loose = λ t i m. refl; counted = λ n a r s m e. refl; unused = λ i d u. refl }

  pub dropped_seen : Seen (dropped_by o)
  dropped_seen = record { held = λ p v. refl; shared = λ l r. refl; lent = λ l r. refl; flown = λ w c. refl; used = λ n w. refl; loose = λ t i m. refl; counted = λ n a r s m e. refl; unused = λ i d u. refl }

-- the word of what is shown
some_live : (k : Cluster) (o : ObjNo) (p : Plain × Place) → first_shown (placed_in o) (things_of k) ≡ Some p → 1 ≤ tot (cells o) (things_of k)
some_live k o p e = by (tot (λ x. told ones (placed_in o x)) (things_of k)) refl
  where
    by : (n : ℕ) → tot (λ x. told ones (placed_in o x)) (things_of k) ≡ n → 1 ≤ tot (cells o) (things_of k)
    by zero z = absurd (cc (sym e ∙ none_first (placed_in o) (things_of k) z))
    by (suc n) z = omega (arith, z, placed_cells o k)

-- OBJECTS AFTERWARDS

module _ (k c : Cluster) (olds news : List Thing) (turned : Turned (things_of k) olds news (things_of c)) (once : (o : ObjNo) → tot (cells o) (things_of k) ≤ 1) (before : HasWords (sight k)) (stay : WordsStay (sight k) (sight c) before) where
  abbrev At : Type 0
  At = Option (Plain × Place)

  abbrev placed_k : ObjNo → At
  placed_k o = first_shown (placed_in o) (things_of k)

  pub placed_after : (o : ObjNo) (p : At) → ((g : Plain × Place → ℕ) → told g p + tot (λ x. told g (placed_in o x)) olds ≡ told g (placed_k o) + tot (λ x. told g (placed_in o x)) news) → first_shown (placed_in o) (things_of c) ≡ p
  placed_after o p e =
      shown_after same_placed placings (placed_in o) (things_of k) olds news (things_of c) (λ g. turned (λ x. told g (placed_in o x)) (placed_seen o g)) (omega (arith, placed_cells o k, once o)) p e

  -- an object that was there has the word that it had
  pub word_kept : (o : ObjNo) (p q : Plain × Place) → placed_k o ≡ Some p → first_shown (placed_in o) (things_of c) ≡ Some q → word (sight c) o ≡ word (sight k) o
  word_kept o p q e d =
      word_told c stay.after o (some_live c o q d) ∙ ap (λ w. Some w) (stay.same o) ∙ sym (word_told k before o (some_live k o p e))

  -- it is where it was, and condemned as it was
  pub living_still : (o : ObjNo) → ((g : Plain × Place → ℕ) → tot (λ x. told g (placed_in o x)) olds ≡ tot (λ x. told g (placed_in o x)) news) → tot (dropped_by o) olds ≡ tot (dropped_by o) news → living_of (sight k) o ≡ living_of (sight c) o
  living_still o e d =
      living_is (sight k) o ∙ by (placed_k o) refl ∙ sym (living_is (sight c) o)
    where
      there : first_shown (placed_in o) (things_of c) ≡ placed_k o
      there = placed_after o (placed_k o) (λ g. ap (λ n. told g (placed_k o) + n) (e g))

      condemned : tot (dropped_by o) (things_of c) ≡ tot (dropped_by o) (things_of k)
      condemned = omega (arith, turned (dropped_by o) (dropped_seen o), d)

      by : (p : At) → placed_k o ≡ p → option_map (as_living o (word (sight k) o) (some (tot (dropped_by o) (things_of k)))) p ≡ option_map (as_living o (word (sight c) o) (some (tot (dropped_by o) (things_of c)))) (first_shown (placed_in o) (things_of c))
      by None z = sym (ap (option_map (as_living o (word (sight c) o) (some (tot (dropped_by o) (things_of c))))) (there ∙ z))
      by (Some p) z =
          ap₂ (λ w n. Some (as_living o w (some n) p)) (sym (word_kept o p p z (there ∙ z))) (sym condemned)
          ∙ sym (ap (option_map (as_living o (word (sight c) o) (some (tot (dropped_by o) (things_of c))))) (there ∙ z))

-- ISSUED WORDS

-- the words that are issued at a thing's address, by these words of objects
abbrev pub issued_by : (ObjNo → ℕ) → ℕ → ℕ → Thing → ℕ
issued_by word_at colours w (lies s a c) = one (is_spot s a w && colour_up_to (Some (word_at c.object)) w)
issued_by word_at colours w (vacant s a next) = one (is_spot s a w && nat_lt (colour_of w) next)
issued_by word_at colours w (retired s a) = one (is_spot s a w && nat_lt (colour_of w) colours)
issued_by word_at colours w x = 0

pub issued_seen : (f : ObjNo → ℕ) (n w : ℕ) → Seen (issued_by f n w)
issued_seen f n w = record { held = λ p v. refl; shared = λ l r. refl; lent = λ l r. refl; flown = λ v c. refl; used = λ r v. refl; loose = λ t i m. refl; counted = λ r a q s m e. refl; unused = λ i d u. refl }

module _ (k : Cluster) (h : HasWords (sight k)) (w : ℕ) where
  abbrev ps : List Pointer
  ps = (sight k).pointers

  abbrev n : ℕ
  n = k.options.colours

  thing_issued : (x : Thing) → Among x (things_of k) → one (is_issued_at n ps w x) ≡ issued_by h.word n w x
  thing_issued (lies s a c) m = ap (λ o. one (is_spot s a w && colour_up_to o w)) (words_law.first_tells k h c.object (h.live s a c m))
  thing_issued (vacant s a next) m = refl
  thing_issued (retired s a) m = refl
  thing_issued _ m = refl

  all_issued : (b : List Thing) → ((x : Thing) → Among x b → Among x (things_of k)) → is_issued n ps b w ≡ some (tot (issued_by h.word n w) b)
  all_issued [] g = refl
  all_issued (x ∷ b) g =
      ap (λ q. is_issued_at n ps w x || q) (all_issued b (λ y m. g y (inr m))) ∙ sym (some_or (is_issued_at n ps w x) (tot (issued_by h.word n w) b)) ∙ ap (λ i. some (i + tot (issued_by h.word n w) b)) (thing_issued x (g x (inl refl)))

  pub issued_told : issued (sight k) w ≡ some (tot (issued_by h.word n w) (things_of k))
  issued_told = all_issued (things_of k) (λ x m. m)

-- issued words stay where addresses and words do
pub issued_still : (k c : Cluster) (olds news : List Thing) → Turned (things_of k) olds news (things_of c) → c.options ≡ k.options → (before : HasWords (sight k)) → WordsStay (sight k) (sight c) before
    → (w : ℕ) → tot (issued_by before.word k.options.colours w) olds ≡ tot (issued_by before.word k.options.colours w) news → issued (sight k) w ≡ issued (sight c) w
issued_still k c olds news turned options before stay w e =
    issued_told k before w ∙ ap some (omega (arith, turned (issued_by before.word k.options.colours w) (issued_seen before.word k.options.colours w), e, same, same2)) ∙ sym (issued_told c stay.after w)
  where
    each : (x : Thing) → issued_by stay.after.word k.options.colours w x ≡ issued_by before.word k.options.colours w x
    each (lies s a d) = ap (λ v. one (is_spot s a w && colour_up_to (Some v) w)) (stay.same d.object)
    each _ = refl

    same : tot (issued_by stay.after.word k.options.colours w) (things_of c) ≡ tot (issued_by before.word k.options.colours w) (things_of c)
    same = tot_same (issued_by stay.after.word k.options.colours w) (issued_by before.word k.options.colours w) each (things_of c)

    same2 : tot (issued_by stay.after.word c.options.colours w) (things_of c) ≡ tot (issued_by stay.after.word k.options.colours w) (things_of c)
    same2 = ap (λ o. tot (issued_by stay.after.word o.colours w) (things_of c)) options
