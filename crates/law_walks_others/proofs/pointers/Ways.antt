-- The place of each path is one that its thread follows at its instruction.
use Rattle.std.proofs.Common.{◌≡◌, ℕ, zero, suc, true, false, Option, Some, None, refl, ap, ◌∙◌, arith}
use Rattle.std.specs.Prelude.{slice_get}
use Rattle.std.specs.Bool.{⊤}
use Rattle.law_words_values.specs.Below.fr_base.Lists.{last_of}
use Rattle.law_words_values.specs.Below.fr_base.declared.place.Lval.{Lval}
use Rattle.law_words_values.specs.Below.fr_base.declared.instruction.Instr.{Instr}
use Rattle.law_words_values.specs.Below.fr_base.declared.instruction.Instr.TheVariants as instr
use Rattle.law_words_values.specs.Below.thread_state.declared.value.Value.{Value}
use Rattle.law_words_values.specs.Below.thread_state.declared.value.Value.TheVariants as value
use Rattle.law_words_values.specs.Below.server_model.Servers.{Cluster}
use Rattle.law_words_values.specs.Below.coherent_memory.Follow.{Standing}
use Rattle.law_words_values.specs.Below.coherent_memory.Paths.{Path, no_path, reads, shares, lends, writes, ends, ending, taking, assigning, path_of}
use Rattle.law_words_values.specs.Below.coherent_memory.Sight.{sight}
use Rattle.law_words_values.specs.Below.coherent_memory.Walking.{instr_of, path}
use Rattle.law_words_values.specs.Below.law_words_paths.paths.Pointing.{assigns, moves}
use Rattle.law_counts_waiting.specs.Below.law_words_kept.reads.Reading.{copies, shares as shares_it, lends as lends_it, dups, locks}
use Rattle.law_counts_waiting.specs.waits.Places.{Follows, reads as follows_read, writes as follows_write, ends_at}
use Rattle.law_counts_waiting.specs.Below.law_words_paths.words.Unmoved.{pointing}
use Rattle.law_walks_others.specs.pointers.Pointers.{SamePointers}
use Rattle.law_walks_others.proofs.pointers.Sentences.{SameHops, SameOn}

-- of the place of a path
abbrev pub OnPath : (Lval → Type 0) → Path → Type 0
OnPath Q no_path = ⊤
OnPath Q (reads w) = Q w
OnPath Q (shares w) = Q w
OnPath Q (lends w) = Q w
OnPath Q (writes w) = Q w
OnPath Q (ends r) = Q r.holder

module _ (k : Cluster) (x : Standing) (Q : Lval → Type 0) (none : (w : Lval) → w.depth ≡ 0 → Q w) (each : (w : Lval) → Follows k x w → Q w) where
  abbrev On : Path → Type 0
  On q = OnPath Q q

  ending_on : (v : Option Value) → path (sight k) x ≡ ending v → On (ending v)
  ending_on (Some (value.Mut r)) e = each r.holder (ends_at r e refl)
  ending_on None e = tt
  ending_on (Some value.Gone) e = tt
  ending_on (Some (value.Own v)) e = tt
  ending_on (Some (value.SharedSlot j)) e = tt
  ending_on (Some (value.MutSlot j)) e = tt
  ending_on (Some (value.Shared q)) e = tt
  ending_on (Some (value.Held m)) e = tt

  at_instr : (o : Option Instr) → instr_of (sight k) x ≡ o → On (path_of o x.thread)
  at_instr (Some (instr.Read w true)) e = by w.depth
    where
      by : (d : ℕ) → On (taking w d)
      by zero = tt
      by (suc d) = each w (follows_write (instr.Read w true) e moves)
  at_instr (Some (instr.Read w false)) e = each w (follows_read (instr.Read w false) w.depth e (copies refl))
  at_instr (Some (instr.Dup w)) e = each w (follows_read (instr.Dup w) w.depth e (dups refl))
  at_instr (Some (instr.Lock w)) e = each w (follows_read (instr.Lock w) w.depth e (locks refl))
  at_instr (Some (instr.Borrow w)) e = by w.depth refl
    where
      by : (d : ℕ) → w.depth ≡ d → Q w
      by zero f = none w f
      by (suc d) f = each w (follows_read (instr.Borrow w) d e (shares_it f))
  at_instr (Some (instr.BorrowMut w)) e = by w.depth refl
    where
      by : (d : ℕ) → w.depth ≡ d → Q w
      by zero f = none w f
      by (suc d) f = each w (follows_read (instr.BorrowMut w) d e (lends_it f))
  at_instr (Some (instr.Assign w o)) e = by w.depth refl
    where
      by : (d : ℕ) → w.depth ≡ d → On (assigning x.thread.slots w d)
      by zero f = ending_on (slice_get x.thread.slots w.slot) (ap (λ i. path_of i x.thread) e ∙ ap (assigning x.thread.slots w) f)
      by (suc d) f = each w (follows_write (instr.Assign w o) e assigns)
  at_instr (Some instr.DropSlot) e = ending_on (last_of x.thread.slots) (ap (λ i. path_of i x.thread) e)
  at_instr (Some instr.Discard) e = ending_on (last_of x.thread.temps) (ap (λ i. path_of i x.thread) e)
  at_instr None e = tt
  at_instr (Some (instr.Let o)) e = tt
  at_instr (Some (instr.Box o)) e = tt
  at_instr (Some (instr.Arith f a b)) e = tt
  at_instr (Some (instr.Print o)) e = tt
  at_instr (Some (instr.Spawn cs pc)) e = tt
  at_instr (Some (instr.Join o)) e = tt
  at_instr (Some (instr.Mutex o)) e = tt
  at_instr (Some instr.Unlock) e = tt
  at_instr (Some (instr.Par cs pc ds other)) e = tt
  at_instr (Some instr.ParEnd) e = tt
  at_instr (Some (instr.End o)) e = tt

  pub on_path : On (path (sight k) x)
  on_path = at_instr (instr_of (sight k) x) refl

-- so the pointers on it are the same
pub same_on : (k c : Cluster) (x : Standing) → ((w : Lval) → Follows k x w → SamePointers k c x.thread.number w) → SameOn k c x.thread.number (path (sight k) x)
same_on k c x same = by (path (sight k) x) (on_path k x (SameHops k c x.thread.number) (λ w e m lt. absurd (omega (arith, lt, e))) (λ w f m lt. ap pointing (same w f m (omega (arith, lt))).1))
  where
    by : (p : Path) → OnPath (SameHops k c x.thread.number) p → SameOn k c x.thread.number p
    by no_path h = tt
    by (reads w) h = h
    by (shares w) h = h
    by (lends w) h = h
    by (writes w) h = h
    by (ends r) h = h
