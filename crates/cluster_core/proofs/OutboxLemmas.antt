-- The outbox of one server, where the others have no message in theirs.
use Rattle.std.proofs.Common.{◌≡◌, ℕ, zero, suc, ◌==◌, Bool, true, false, if◌then◌else◌, List, [], ◌∷◌, ◌++◌, length, Some, refl, sym, ap, ◌∙◌}
use Rattle.std.specs.Prelude.{slice_get, slice_set}
use Rattle.std.proofs.lemmas.List.{append-nil}
use Rattle.server_model.specs.Servers.{Server, Sent}
use Rattle.server_model.specs.Clusters.{accept, accept_at, accept_all, emptied, outboxes, with_outbox}
use Rattle.cluster_core.specs.Handing.{handed, AreEmpty, AreEmptyBut, NoneSent}
use Rattle.cluster_core.proofs.CountingLemmas.{sent_accept}

-- those before it have none
pub before_empty : (n : ℕ) (ss : List Server) → AreEmptyBut n ss → AreEmpty n ss
before_empty zero ss a = tt
before_empty (suc n) [] a = tt
before_empty (suc n) (s ∷ ss) a = (a.0, before_empty n ss a.1)

-- another state of that server leaves the others as they are
pub others_set : (n : ℕ) (ss : List Server) (new : Server) → AreEmptyBut n ss → AreEmptyBut n (slice_set ss n new)
others_set n [] new a = tt
others_set zero (s ∷ ss) new a = a
others_set (suc n) (s ∷ ss) new a = (a.0, others_set n ss new a.1)

-- so does the first state, where no message stood in an outbox
pub none_but_set : (n : ℕ) (ss : List Server) (new : Server) → NoneSent ss → AreEmptyBut n (slice_set ss n new)
none_but_set n [] new a = tt
none_but_set zero (s ∷ ss) new a = a.1
none_but_set (suc n) (s ∷ ss) new a = (a.0, none_but_set n ss new a.1)

-- a message leaves outboxes as they are
pub others_accept : (n : ℕ) (ss : List Server) (x : Sent) → AreEmptyBut n ss → AreEmptyBut n (accept_at ss x)
others_accept n [] x a = tt
others_accept zero (s ∷ ss) x a = by (s.rest.number == x.target)
  where
    by : (b : Bool) → AreEmptyBut zero (if b then accept x.message s ∷ ss else s ∷ accept_at ss x)
    by true = a
    by false = sent_accept ss x a
others_accept (suc n) (s ∷ ss) x a = by (s.rest.number == x.target) (others_accept n ss x a.1)
  where
    by : (b : Bool) → AreEmptyBut n (accept_at ss x) → AreEmptyBut (suc n) (if b then accept x.message s ∷ ss else s ∷ accept_at ss x)
    by true e = (a.0, a.1)
    by false e = (a.0, e)

-- with none there either, no message stands in an outbox
pub none_anywhere : (n : ℕ) (ss : List Server) (s : Server) → AreEmptyBut n ss → slice_get ss n ≡ Some s → s.rest.outbox ≡ [] → NoneSent ss
none_anywhere n [] s a e o = tt
none_anywhere zero (y ∷ ss) s a e o = let same : y ≡ s = cc in (ap (λ (z : Server). z.rest.outbox) same ∙ o, a)
none_anywhere (suc n) (y ∷ ss) s a e o = (a.0, none_anywhere n ss s a.1 e o)

-- none stands in that of one of them
pub none_at : (n : ℕ) (ss : List Server) (s : Server) → NoneSent ss → slice_get ss n ≡ Some s → s.rest.outbox ≡ []
none_at n [] s a e = absurd (cc e)
none_at zero (y ∷ ss) s a e = let same : s ≡ y = cc in ap (λ (z : Server). z.rest.outbox) same ∙ a.0
none_at (suc n) (y ∷ ss) s a e = none_at n ss s a.1 e

-- none stands in the outbox of any of them
pub all_empty : (ss : List Server) → NoneSent ss → AreEmpty (length ss) ss
all_empty [] a = tt
all_empty (s ∷ ss) a = (a.0, all_empty ss a.1)

-- nothing is to be emptied
emptied_none : (ss : List Server) → NoneSent ss → emptied ss ≡ ss
emptied_none [] a = refl
emptied_none (s ∷ ss) a = ap (λ l. with_outbox l s ∷ emptied ss) (sym a.0) ∙ ap (λ l. s ∷ l) (emptied_none ss a.1)

-- one outbox alone is to be emptied
emptied_one : (n : ℕ) (ss : List Server) (new : Server) → NoneSent ss → emptied (slice_set ss n new) ≡ slice_set ss n (with_outbox [] new)
emptied_one n [] new a = refl
emptied_one zero (s ∷ ss) new a = ap (λ l. with_outbox [] new ∷ l) (emptied_none ss a.1)
emptied_one (suc n) (s ∷ ss) new a = ap (λ l. with_outbox l s ∷ emptied (slice_set ss n new)) (sym a.0) ∙ ap (λ l. s ∷ l) (emptied_one n ss new a.1)

-- there are no messages
outboxes_none : (ss : List Server) → NoneSent ss → outboxes ss ≡ []
outboxes_none [] a = refl
outboxes_none (s ∷ ss) a = ap (λ l. l ++ outboxes ss) a.0 ∙ outboxes_none ss a.1

-- the messages of all are those of that server
pub outboxes_one : (n : ℕ) (ss : List Server) (old new : Server) → NoneSent ss → slice_get ss n ≡ Some old → outboxes (slice_set ss n new) ≡ new.rest.outbox
outboxes_one n [] old new a e = absurd (cc e)
outboxes_one zero (s ∷ ss) old new a e = ap (λ l. new.rest.outbox ++ l) (outboxes_none ss a.1) ∙ append-nil new.rest.outbox
outboxes_one (suc n) (s ∷ ss) old new a e = ap (λ l. l ++ outboxes (slice_set ss n new)) a.0 ∙ outboxes_one n ss old new a.1 e

-- so handing over all hands over those of that server
pub handed_one : (n : ℕ) (ss : List Server) (old new : Server) → NoneSent ss → slice_get ss n ≡ Some old → handed (slice_set ss n new) ≡ accept_all (slice_set ss n (with_outbox [] new)) new.rest.outbox
handed_one n ss old new a e = ap (λ l. accept_all l (outboxes (slice_set ss n new))) (emptied_one n ss new a) ∙ ap (accept_all (slice_set ss n (with_outbox [] new))) (outboxes_one n ss old new a e)
