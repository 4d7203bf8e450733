-- A term is typed or has a fault, and each in one way.
use Rattle.std.proofs.Common.{◌≡◌, ℕ, sym, ◌∙◌, ◌⊎◌, inl, inr}
use Rattle.fr_terms.specs.Terms.{Term}
use Rattle.fr_typing.specs.declared.reason.Reason.{Reason}
use Rattle.fr_typing.specs.Kinds.{Kind}
use Rattle.fr_typing.specs.Places.{Env}
use Rattle.fr_typing.specs.Finding.{Outcome, typed, fault}
use Rattle.fr_typing.specs.Typing.{Types, Faults, typing}
use Rattle.fr_typing.specs.Laws.{IsTyped, HasFault, OneOutcome}
use Rattle.fr_typing.proofs.Agree.{Says, says, typing_by, fault_by}

some_outcome : (t : Term) (e : Env) (o : Outcome) → Says e t o → IsTyped e t ⊎ HasFault e t
some_outcome t e (typed k e1) h = inl (record { kind = k; after = e1; types = h })
some_outcome t e (fault p r) h = inr (record { at = p; reason = r; faults = h })

never_both : (t : Term) (e e1 : Env) (k : Kind) (p : ℕ) (r : Reason) → Types e t k e1 → Faults e t p r → ⊥
never_both t e e1 k p r h f = let both : typed k e1 ≡ fault p r = sym (typing_by h) ∙ fault_by f in cc

typed_alike : (t : Term) (e e1 e2 : Env) (k l : Kind) → Types e t k e1 → Types e t l e2 → typed k e1 ≡ typed l e2
typed_alike t e e1 e2 k l h g = sym (typing_by h) ∙ typing_by g

fault_alike : (t : Term) (e : Env) (p q : ℕ) (r s : Reason) → Faults e t p r → Faults e t q s → fault p r ≡ fault q s
fault_alike t e p q r s h g = sym (fault_by h) ∙ fault_by g

pub one_outcome_lem : OneOutcome
one_outcome_lem = record {
  some = λ t e. some_outcome t e (typing t e) (says t e);
  not_both = never_both;
  same_kind = λ t e e1 e2 k l h g. cc (typed_alike t e e1 e2 k l h g);
  same_after = λ t e e1 e2 k l h g. cc (typed_alike t e e1 e2 k l h g);
  same_place = λ t e p q r s h g. cc (fault_alike t e p q r s h g);
  same_reason = λ t e p q r s h g. cc (fault_alike t e p q r s h g);
}
