-- A server at the start of a run, and its outbox.
use Rattle.std.proofs.Common.{◌≡◌, ℕ, zero, suc, ◌+◌, ◌<◌, ◌≤◌, Bool, true, false, ◌==◌, if◌then◌else◌, List, [], ◌∷◌, map, length, slice_get, None, Some, refl, sym, ap, ◌∙◌, arith}
use Rattle.std.specs.List.{remove}
use Rattle.std.proofs.lemmas.Bool.{eqb-true, eqb-false, ne_eqb}
use Rattle.fr_base.specs.declared.settings.Options.{Options}
use Rattle.server_msgs.specs.declared.message.Message.{Message}
use Rattle.server_model.specs.Servers.{Server, empty_server, empty_servers, main_thread, with_main, server_at}
use Rattle.server_model.specs.Clusters.{with_outbox}
use Rattle.server_parts.specs.Works.{sending}
use Rattle.server_core.specs.Outboxes.{taken_from}
use Rattle.server_parts.specs.Threads.{first_threads}

-- the server of a number at the start
abbrev started_at : Options → ℕ → Server
started_at o s = record (empty_server o s) { threads = first_threads s }

later_server : (o : Options) (n s from : ℕ) → 0 < from → from ≤ s → s < from + n → server_at (empty_servers o from n) s ≡ Some (started_at o s)
later_server o zero s from above least below = absurd (omega (arith, least, below))
later_server o (suc n) s from above least below = by (from == s) refl (λ e. later_server o n s (from + 1) (omega (arith, above)) (next e) (omega (arith, below)))
  where
    next : (from == s) ≡ false → from + 1 ≤ s
    next e = let other = eqb-false from s e in after from s least other
      where
        after : (a b : ℕ) → a ≤ b → (a ≡ b → ⊥) → a + 1 ≤ b
        after a b least other = omega (arith, least, other)

    none : (k : ℕ) → 0 < k → first_threads k ≡ []
    none k h = ap (λ b. if b then main_thread ∷ [] else []) (ne_eqb k 0 (λ e. omega (arith, e, h)))

    alone : (k : ℕ) → 0 < k → empty_server o k ≡ started_at o k
    alone k h = ap (λ ts. record (empty_server o k) { threads = ts }) (sym (none k h))

    by : (b : Bool) → (from == s) ≡ b → ((from == s) ≡ false → server_at (empty_servers o (from + 1) n) s ≡ Some (started_at o s)) → (if b then Some (empty_server o from) else server_at (empty_servers o (from + 1) n) s) ≡ Some (started_at o s)
    by true e ih = ap Some (ap (empty_server o) (eqb-true from s e) ∙ alone s (omega (arith, above, least)))
    by false e ih = ih e

pub start_server : (o : Options) (n s : ℕ) → s < n → server_at (with_main (empty_servers o 0 n)) s ≡ Some (started_at o s)
start_server o zero s h = absurd (omega (arith, h))
start_server o (suc n) zero h = refl
start_server o (suc n) (suc s) h =
    ap (λ b. if b then Some (record (empty_server o 0) { threads = main_thread ∷ [] }) else server_at (empty_servers o 1 n) (suc s)) (ne_eqb 0 (suc s) (λ e. omega (arith, e)))
    ∙ later_server o n (suc s) 1 (omega arith) (omega arith) (omega (arith, h))

pub none_out : (s : Server) (xs : List (ℕ × Message)) → length xs ≡ 0 → taken_from s (map sending xs) ≡ (None, s)
none_out s [] h = refl
none_out s (x ∷ xs) h = absurd (omega (arith, h))

pub first_out : (s : Server) (xs : List (ℕ × Message)) (x : ℕ × Message) → slice_get xs 0 ≡ Some x → taken_from s (map sending xs) ≡ (Some (sending x), with_outbox (map sending (remove xs 0)) s)
first_out s [] x h = absurd cc
first_out s (y ∷ ys) x h = let same : y ≡ x = cc in ap (λ z. (Some (sending z), with_outbox (map sending ys) s)) same
