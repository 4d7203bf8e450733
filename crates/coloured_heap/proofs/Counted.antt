-- Messages are counted act by act and entry by entry.
use Rattle.std.proofs.Common.{arith, ◌≡◌, ◌+◌, ◌<◌, ◌&&◌, ◌==◌, ◌++◌, not, ℕ, Bool, true, false, List, [], ◌∷◌, length, drop, slice_index_or, Option, Some, None, Result, Ok, Err, OnErr, refl, ap, sym, ◌∙◌}
use native.Mathlib.Numerals.{unary_clauses}
use Rattle.std.specs.Prelude.{map}
use Rattle.std.proofs.lemmas.List.{drop_more}
use Rattle.std.proofs.lemmas.List.Elements.{filter_map-append}
use Rattle.fr_base.specs.Lists.{tot, one}
use Rattle.fr_base.specs.Kinds.{kind_number}
use Rattle.fr_base.specs.declared.message.Kind.{Kind}
use Rattle.fr_base.specs.declared.message.Kind.TheVariants as kind
use Rattle.fr_tally.specs.Counts.{one_more}
use Rattle.journal.specs.declared.act.Act.{Act}
use Rattle.journal.specs.View.{EntryView}
use Rattle.coloured_heap.specs.Figures.{kinds}
use Rattle.coloured_heap.specs.Messages.{as_sending, one_of, sent}
use Rattle.coloured_heap.specs.Sends.{Sending, sends, sendings, count, counts}
use Rattle.coloured_heap.proofs.Sums.{of_one_kind, tot_plus, tot_same}

-- the same by each kind
pub same_counts : (f g : Kind → ℕ) → ((k : Kind) → f k ≡ g k) → (ks : List Kind) → map f ks ≡ map g ks
same_counts f g same [] = refl
same_counts f g same (k ∷ ks) = ap (λ n. n ∷ map f ks) (same k) ∙ ap (λ ns. g k ∷ ns) (same_counts f g same ks)

-- what holds anyway holds where a call is refused
pub on_err : {T E P : Type 0} (r : Result T E) → P → OnErr r P
on_err (Ok x) h = tt
on_err (Err e) h = h

-- a kind is counted once more
pub kind_counted : (j : Kind) (f : Kind → ℕ) → one_more (map f kinds) (kind_number j) ≡ map (λ k. f k + one_of j k) kinds
kind_counted kind.Fetch f = simp unary_clauses refl
kind_counted kind.Fetched f = simp unary_clauses refl
kind_counted kind.Move f = simp unary_clauses refl
kind_counted kind.Moved f = simp unary_clauses refl
kind_counted kind.Drop f = simp unary_clauses refl
kind_counted kind.Lock f = simp unary_clauses refl
kind_counted kind.Granted f = simp unary_clauses refl
kind_counted kind.Unlock f = simp unary_clauses refl
kind_counted kind.Dup f = simp unary_clauses refl
kind_counted kind.Dupped f = simp unary_clauses refl
kind_counted kind.Release f = simp unary_clauses refl
kind_counted kind.Start f = simp unary_clauses refl
kind_counted kind.Join f = simp unary_clauses refl
kind_counted kind.Joined f = simp unary_clauses refl
kind_counted kind.Finished f = simp unary_clauses refl
kind_counted kind.Migrate f = simp unary_clauses refl

always : (b : Bool) → one (b && true) ≡ one b
always true = refl
always false = refl

-- and all kinds together once more
pub one_kind_more : (j : Kind) (f : Kind → ℕ) → tot (λ k. f k + one_of j k) kinds ≡ tot f kinds + 1
one_kind_more j f =
    let parts = tot_plus f (one_of j) kinds in
    let its : 1 ≡ tot (λ k. one ((kind_number j == kind_number k) && true)) kinds = of_one_kind j true in
    let same : tot (λ k. one ((kind_number j == kind_number k) && true)) kinds ≡ tot (one_of j) kinds = tot_same (λ k. one ((kind_number j == kind_number k) && true)) (one_of j) kinds (λ k. always (kind_number j == kind_number k)) in
    omega (arith, parts, its, same)

-- ONE ACT

abbrev of_one : Option Sending → List Sending
of_one None = []
of_one (Some m) = m ∷ []

never : (b : Bool) → one (b && false) ≡ 0
never true = refl
never false = refl

module _ (here : ℕ) (a : Act) (f : Kind → ℕ) where
  of_sending : (r : Option Sending) → sends a ≡ r → (k : Kind) → sent here (a ∷ []) k ≡ tot (λ m. one (counts here k m)) (of_one r)
  of_sending r is k = by r is
    where
      by : (r : Option Sending) → sends a ≡ r → sent here (a ∷ []) k ≡ tot (λ m. one (counts here k m)) (of_one r)
      by None is = rw is refl
      by (Some m) is = rw is refl

  -- no message, one to the own server, and one to another
  pub no_message : None ≡ sends a → map f kinds ≡ map (λ k. f k + sent here (a ∷ []) k) kinds
  no_message is = same_counts f (λ k. f k + sent here (a ∷ []) k) (λ k. let none = of_sending None (sym is) k in omega (arith, none)) kinds

  pub own_message : (j : Kind) (target : ℕ) → Some (as_sending (j, target)) ≡ sends a → (target == here) ≡ true → map f kinds ≡ map (λ k. f k + sent here (a ∷ []) k) kinds
  own_message j target is own = same_counts f (λ k. f k + sent here (a ∷ []) k) (λ k. by k) kinds
    where
      by : (k : Kind) → f k ≡ f k + sent here (a ∷ []) k
      by k =
          let at_home : one (counts here k (as_sending (j, target))) ≡ one ((kind_number j == kind_number k) && false) = ap (λ b. one ((kind_number j == kind_number k) && not b)) own in
          let nothing : one ((kind_number j == kind_number k) && false) ≡ 0 = never (kind_number j == kind_number k) in
          let its = of_sending (Some (as_sending (j, target))) (sym is) k in
          omega (arith, at_home, nothing, its)

  pub a_message_each : (j : Kind) (target : ℕ) → Some (as_sending (j, target)) ≡ sends a → (target == here) ≡ false → (k : Kind) → f k + one_of j k ≡ f k + sent here (a ∷ []) k
  a_message_each j target its_is away k =
      let off : one (counts here k (as_sending (j, target))) ≡ one ((kind_number j == kind_number k) && true) = ap (λ b. one ((kind_number j == kind_number k) && not b)) away in
      let whole : one ((kind_number j == kind_number k) && true) ≡ one_of j k = always (kind_number j == kind_number k) in
      let its = of_sending (Some (as_sending (j, target))) (sym its_is) k in
      omega (arith, off, whole, its)

  pub a_message : (j : Kind) (target : ℕ) → Some (as_sending (j, target)) ≡ sends a → (target == here) ≡ false → map (λ k. f k + one_of j k) kinds ≡ map (λ k. f k + sent here (a ∷ []) k) kinds
  a_message j target is away = same_counts (λ k. f k + one_of j k) (λ k. f k + sent here (a ∷ []) k) (a_message_each j target is away) kinds

-- SUMS

-- the sum over two lists
pub tot_append : {A : Type 0} (f : A → ℕ) (xs ys : List A) → tot f (xs ++ ys) ≡ tot f xs + tot f ys
tot_append f [] ys = omega arith
tot_append f (x ∷ xs) ys = omega (arith, tot_append f xs ys)

-- the messages of some acts are those of the first one and those of the others
sent_more : (here : ℕ) (a : Act) (more : List Act) (k : Kind) → sent here (a ∷ more) k ≡ sent here (a ∷ []) k + sent here more k
sent_more here a more k = ap (tot (λ m. one (counts here k m))) (filter_map-append sends (a ∷ []) more) ∙ tot_append (λ m. one (counts here k m)) (sendings (a ∷ [])) (sendings more)

-- the same from a place on
pub sent_at : (here : ℕ) (acts : List Act) (i : ℕ) (a : Act) (k : Kind) → i < length acts → a ≡ slice_index_or acts i a → sent here (drop i acts) k ≡ sent here (a ∷ []) k + sent here (drop (i + 1) acts) k
sent_at here acts i a k low is = ap (λ (xs : List Act). sent here xs k) (drop_more acts i a low ∙ ap (λ (x : Act). x ∷ drop (i + 1) acts) (sym is)) ∙ sent_more here a (drop (i + 1) acts) k

pub count_at_entry : (es : List EntryView) (i : ℕ) (e : EntryView) (k : Kind) → i < length es → e ≡ slice_index_or es i e → count (drop i es) k ≡ sent e.server e.acts k + count (drop (i + 1) es) k
count_at_entry es i e k low is = ap (λ (xs : List EntryView). count xs k) (drop_more es i e low ∙ ap (λ (x : EntryView). x ∷ drop (i + 1) es) (sym is))
