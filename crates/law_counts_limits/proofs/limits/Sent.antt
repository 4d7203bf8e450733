-- Messages that an event has sent, at most so many.
use Rattle.std.proofs.Common.{◌≡◌, ◌≤◌, ℕ, suc, ◌==◌, Bool, true, false, if◌then◌else◌, List, [], ◌∷◌, ◌++◌, refl, sym, ap, subst, ◌∙◌, arith, append-nil, append_assoc, length-append}
use Rattle.std.specs.List.{AllByRecursion}
use Rattle.law_counts_things.specs.Below.server_msgs.declared.message.Message.{Message}
use Rattle.law_counts_things.specs.Below.server_model.Servers.{Sent, Rest}
use Rattle.law_counts_things.specs.Below.server_model.Work.{sent_from}
use Rattle.law_counts_limits.specs.limits.Sending.{AddsFew, SendsFew}

abbrev pub Others : ℕ → List Sent → Type 0
Others n xs = AllByRecursion (λ (x : Sent). (x.target == n) ≡ false) xs

pub sends_none : (r : Rest) → SendsFew 0 r r
sends_none r = record { same = refl; more = []; all = sym (append-nil r.outbox); few = omega arith; others = tt }

pub at_most : (a b : ℕ) (r : Rest) (n : ℕ) (o : List Sent) → a ≤ b → AddsFew a r n o → AddsFew b r n o
at_most a b r n o l g = record { same = g.same; more = g.more; all = g.all; few = omega (arith, l, g.few); others = g.others }

all_others : (n : ℕ) (xs ys : List Sent) → Others n xs → Others n ys → Others n (xs ++ ys)
all_others n [] ys a b = b
all_others n (x ∷ xs) ys a b = (a.0, all_others n xs ys a.1 b)

-- one message more
pub sends_more : (most : ℕ) (r r1 : Rest) (t : ℕ) (m : Message) → SendsFew most r r1 → SendsFew (suc most) r (sent_from r1 t m)
sends_more most r r1 t m a = by (t == r1.number) refl
  where
    by : (b : Bool) → (t == r1.number) ≡ b → SendsFew (suc most) r (if b then record r1 { inbox = r1.inbox ++ m ∷ [] } else record r1 { outbox = r1.outbox ++ record { target = t; message = m } ∷ [] })
    by true e = at_most most (suc most) r r1.number r1.outbox (omega arith) a
    by false e =
        let last : List Sent = record { target = t; message = m } ∷ [] in record {
          same = a.same;
          more = a.more ++ last;
          all = ap (λ l. l ++ last) a.all ∙ append_assoc r.outbox a.more last;
          few = omega (arith, a.few, length-append a.more last);
          others = all_others r.number a.more last a.others (subst (λ n. (t == n) ≡ false) a.same e, tt);
        }
