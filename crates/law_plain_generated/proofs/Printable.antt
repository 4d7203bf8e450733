-- Generated programs can be printed: their names are names of the language, and they are within the limits.
use Rattle.std.proofs.Common.{◌≡◌, ℕ, zero, suc, ◌+◌, ◌<◌, ◌≤◌, ◌^◌, ◌%◌, ◌/◌, ◌==◌, Bool, true, false, ◌&&◌, ◌||◌, cond, List, [], ◌∷◌, codes, decimal, refl, ap, ap₂, ◌∙◌, arith}
use Rattle.std.specs.List.{list_all}
use Rattle.std.proofs.lemmas.Bool.{le-leb}
use Rattle.std.proofs.lemmas.Fmt.{decimal_by_steps, length-decimal-le}
use Rattle.std.proofs.lemmas.List.Folds.{list_all-append}
use Rattle.std.proofs.lemmas.List.Sums.{AllPass-from_list_all}
use Rattle.std.proofs.Math.Nat.{mod-lt}
use Rattle.fr_terms.specs.Terms.{Text, Term}
use Rattle.fr_syntax.specs.Words.{is_letter, is_digit, is_word_byte}
use Rattle.fr_parse.specs.Canonical.{IsName, IsPrintable}
use Rattle.gen_load.specs.Programs.{add_locked, block, by_kind, counting, handed, handed_from, handing, print_end, program, shared_round, sharing, step_of, task_name, times}
use Rattle.law_plain_generated.proofs.Lists.{AreFine, none_fine, one_fine, both_fine, times_fine}

-- NAMES

word_digit : (n : ℕ) → n < 10 → is_word_byte (48 + n) ≡ true
word_digit n h = or_true (is_letter (48 + n)) (is_digit (48 + n)) (ap₂ (λ a b. a && b) (le-leb 48 (48 + n) (omega arith)) (le-leb (48 + n) 57 (omega (arith, h))))
  where
    or_true : (a b : Bool) → b ≡ true → (a || b) ≡ true
    or_true true b e = refl
    or_true false b e = e

digits_words : (n : ℕ) → n < 2 ^ 64 → list_all is_word_byte (decimal n) ≡ true
digits_words n h =
    decimal_by_steps (λ m ds. list_all is_word_byte ds ≡ true) (λ m lt. ap (λ b. b && true) (word_digit m lt))
    (λ m ds ten whole. list_all-append is_word_byte ds ((48 + m % 10) ∷ []) ∙ ap₂ (λ a b. a && (b && true)) whole (word_digit (m % 10) (mod-lt m (omega arith)))) n h

task_named : (i : ℕ) → i < 4000 → IsName (task_name i)
task_named i h = record {
  first = refl;
  bytes = AllPass-from_list_all is_word_byte (task_name i) (digits_words i (omega (arith, h)));
  short = omega (arith, length-decimal-le 4 i (omega arith) (omega (arith, h)) (omega (arith, h)));
  free = refl;
}

name_m : IsName (codes "m")
name_m = record { first = refl; bytes = AllPass-from_list_all is_word_byte (codes "m") refl; short = omega arith; free = refl }

name_a : IsName (codes "a")
name_a = record { first = refl; bytes = AllPass-from_list_all is_word_byte (codes "a") refl; short = omega arith; free = refl }

name_b : IsName (codes "b")
name_b = record { first = refl; bytes = AllPass-from_list_all is_word_byte (codes "b") refl; short = omega arith; free = refl }

name_c : IsName (codes "c")
name_c = record { first = refl; bytes = AllPass-from_list_all is_word_byte (codes "c") refl; short = omega arith; free = refl }

name_g : IsName (codes "g")
name_g = record { first = refl; bytes = AllPass-from_list_all is_word_byte (codes "g") refl; short = omega arith; free = refl }

name_h : IsName (codes "h")
name_h = record { first = refl; bytes = AllPass-from_list_all is_word_byte (codes "h") refl; short = omega arith; free = refl }

name_r : IsName (codes "r")
name_r = record { first = refl; bytes = AllPass-from_list_all is_word_byte (codes "r") refl; short = omega arith; free = refl }

name_x : IsName (codes "x")
name_x = record { first = refl; bytes = AllPass-from_list_all is_word_byte (codes "x") refl; short = omega arith; free = refl }

-- COUNTING

locked_fine : (share : Text) (d : ℕ) → IsName share → d < 2 ^ 63 → AreFine 10 (add_locked share d ∷ [])
locked_fine share d n small =
    one_fine 10 (add_locked share d) [] (n, name_c, tt, ((name_c, (name_c, small)), tt)) (omega arith, ((omega arith, (omega arith, tt)), tt)) (omega arith) (none_fine 10)

counting_fine : (k d : ℕ) → d < 2 ^ 63 → AreFine 20 (counting k d)
counting_fine k d small =
    let ours = times_fine 10 k (add_locked (codes "a") d ∷ []) (locked_fine (codes "a") d name_a small) in
    let theirs = times_fine 10 k (add_locked (codes "b") d ∷ []) (locked_fine (codes "b") d name_b small) in
    one_fine 20 _ _ (refl, name_m, omega arith) tt (omega arith)
    (one_fine 20 _ _ (refl, name_a, name_m) (omega arith) (omega arith)
    (one_fine 20 _ _ (refl, name_b, name_m) (omega arith) (omega arith)
    (one_fine 20 _ _ (refl, name_h, ((name_a, tt), tt, ours.spellable)) ours.short (omega (arith, ours.levels))
    (one_fine 20 _ _ (refl, name_g, ((name_b, tt), tt, theirs.spellable)) theirs.short (omega (arith, theirs.levels))
    (one_fine 20 _ _ name_h (omega arith) (omega arith)
    (one_fine 20 _ _ name_g (omega arith) (omega arith)
    (one_fine 20 _ _ (name_m, name_c, tt, (name_c, tt)) (omega arith, (omega arith, tt)) (omega arith)
    (none_fine 20))))))))

-- SHARING

round_fine : (d : ℕ) → d < 2 ^ 63 → AreFine 20 (shared_round d)
round_fine d small =
    one_fine 20 _ _ ((refl, name_r, name_x), (((name_r, tt), tt, (name_r, tt), (name_r, tt), tt, (name_r, tt)), tt)) (omega arith, (((omega arith, tt), (omega arith, tt)), tt)) (omega arith)
    (one_fine 20 _ _ (name_x, (name_x, small)) (omega arith, (omega arith, tt)) (omega arith) (none_fine 20))

sharing_fine : (k d : ℕ) → d < 2 ^ 63 → AreFine 20 (sharing k d)
sharing_fine k d small =
    one_fine 20 _ _ (refl, name_x, small) tt (omega arith)
    (both_fine 20 (times k (shared_round d)) (print_end 1 ∷ []) (times_fine 20 k (shared_round d) (round_fine d small)) (one_fine 20 (print_end 1) [] name_x (omega arith) (omega arith) (none_fine 20)))

-- HANDING ON

handed_fine : (i d : ℕ) → i < 4000 → d < 2 ^ 63 → AreFine 20 (handed i d)
handed_fine i d few small =
    one_fine 20 _ _ (refl, task_named i few, ((name_x, tt), tt, ((name_x, (name_x, small)), (name_x, tt)))) ((omega arith, (omega arith, tt)), (omega arith, tt)) (omega arith)
    (one_fine 20 _ _ (name_x, task_named i few) (omega arith, omega arith) (omega arith) (none_fine 20))

threads_fine : (i k d : ℕ) → i + k ≤ 4000 → d < 2 ^ 63 → AreFine 20 (handed_from i k d)
threads_fine i zero d few small = none_fine 20
threads_fine i (suc k) d few small = both_fine 20 (handed i d) (handed_from (i + 1) k d) (handed_fine i d (omega (arith, few)) small) (threads_fine (i + 1) k d (omega (arith, few)) small)

handing_fine : (k d : ℕ) → k ≤ 4000 → d < 2 ^ 63 → AreFine 20 (handing k d)
handing_fine k d few small =
    one_fine 20 _ _ (refl, name_x, small) tt (omega arith)
    (both_fine 20 (handed_from 0 k d) (print_end 2 ∷ []) (threads_fine 0 k d (omega (arith, few)) small) (one_fine 20 (print_end 2) [] name_x (omega arith) (omega arith) (none_fine 20)))

-- THE PROGRAM

kind_fine : (first second : Bool) (k d : ℕ) → k ≤ 4000 → d < 2 ^ 63 → AreFine 20 (cond first (counting k d) (cond second (sharing k d) (handing k d)))
kind_fine true second k d few small = counting_fine k d small
kind_fine false true k d few small = sharing_fine k d small
kind_fine false false k d few small = handing_fine k d few small

printed : (ts : List Term) → AreFine 20 ts → IsPrintable (block ts)
printed ts h = record { block = tt; spellable = h.spellable; limits = record { depth = omega (arith, h.levels); places = h.short } }

pub program_printable : (n size : ℕ) → size ≤ 4000 → IsPrintable (program n size)
program_printable n size few =
    let less : n / 3 % 97 < 97 = mod-lt (n / 3) (omega arith) in
    printed (by_kind (n % 3) size (step_of n)) (kind_fine (n % 3 == 0) (n % 3 == 1) size (step_of n) few (omega (arith, less)))
