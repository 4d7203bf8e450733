-- A word is issued once.
use Rattle.std.proofs.Common.{arith, ◌≡◌, ◌≤◌, ◌==◌, not, ℕ, true, Option, Some, None, false, refl, ap, sym}
use Rattle.std.specs.Prelude.{nat_lt, is_some}
use Rattle.fr_base.specs.declared.settings.Options.{Options}
use Rattle.fr_base.specs.declared.step.Fresh.{Fresh}
use Rattle.fr_base.specs.declared.step.Fresh.TheVariants as fresh
use Rattle.global_addr.specs.Words.{colour_of}
use Rattle.coloured_heap.specs.Lists.{first, holds, times}
use Rattle.coloured_heap.specs.Heap.{is_issued, Coloured}
use Rattle.coloured_heap.specs.Rules.{issued_by, is_new, rule}
use Rattle.coloured_heap.specs.Changes.{with_new, with_new_mutex}
use Rattle.coloured_heap.specs.Laws.{IssuedOnce}
use Rattle.coloured_heap.proofs.Kept.{Kept, after_all}
use Rattle.coloured_heap.proofs.Times.{both, is_not, number_is, none_there, in_front}

abbrev once : ℕ → Coloured → Type 0
once w s = times (λ v. v == w) s.issued ≤ 1

has_none : {A : Type 0} (r : Option A) → holds (λ x. true) r ≡ false → is_some r ≡ false
has_none None h = refl
has_none (Some x) h = h

-- the word that an act issues was never issued before
by_new : (o : Options) (s : Coloured) (w : ℕ) (new : Option ℕ) → is_new o s new ≡ true → once w s → times (λ v. v == w) (with_new new s.issued) ≤ 1
by_new o s w None h few = few
by_new o s w (Some v) h few =
    let not_there = is_not (is_issued s v) (both (nat_lt (colour_of v) o.colours) (not (is_issued s v)) h).1 in
    in_front (λ u. u == w) (λ u. u == v) v s.issued (λ e. ap (λ z. times (λ u. u == z) s.issued) (sym (number_is v w e)))
    (none_there (λ u. u == v) s.issued (has_none (first (λ u. u == v) s.issued) not_there)) few

by_name : (w : ℕ) (names : Option Fresh) (s : Coloured) → once w s → once w (with_new_mutex names s)
by_name w None s h = h
by_name w (Some fresh.None) s h = h
by_name w (Some (fresh.Thread t)) s h = h
by_name w (Some (fresh.Threads t u)) s h = h
by_name w (Some (fresh.Mutex m)) s h = h

kept : (o : Options) (w : ℕ) → Kept o (once w)
kept o w = record {
  act = λ e s a allowed few. by_new o s w (issued_by a) (both (is_new o s (issued_by a)) (rule o e s a) allowed).0 few;
  store = λ s p v h. h;
  name = λ s here names new h. by_name w names s h;
}

pub issued_once : IssuedOnce
issued_once o es s w h = after_all o (once w) (kept o w) (omega arith) es s h
