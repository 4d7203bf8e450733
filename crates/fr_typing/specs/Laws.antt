-- What is proved of typing.
use Rattle.std.specs.Prelude.{◌≡◌, ◌↔◌, ◌⊎◌, ℕ}
use Rattle.fr_terms.specs.Terms.{Term}
use Rattle.fr_typing.specs.declared.reason.Reason.{Reason}
use Rattle.fr_typing.specs.Kinds.{Kind}
use Rattle.fr_typing.specs.Places.{Env}
use Rattle.fr_typing.specs.Finding.{typed, fault}
use Rattle.fr_typing.specs.Typing.{Types, Faults, typing}

-- the relation is what the function gives, so that exactly one of typing and fault holds, in one way
pub record ExactlyOne : Type 0 where
  pub types : (t : Term) (e : Env) (k : Kind) (e1 : Env) → Types e t k e1 ↔ (typing t e ≡ typed k e1)
  pub faults : (t : Term) (e : Env) (p : ℕ) (r : Reason) → Faults e t p r ↔ (typing t e ≡ fault p r)

-- a term that is typed, and one that has a fault
pub record IsTyped (e : Env) (t : Term) : Type 0 where
  pub kind : Kind
  pub after : Env
  pub types : Types e t kind after

pub record HasFault (e : Env) (t : Term) : Type 0 where
  pub at : ℕ
  pub reason : Reason
  pub faults : Faults e t at reason

-- the same in plain words
pub record OneOutcome : Type 0 where
  pub some : (t : Term) (e : Env) → IsTyped e t ⊎ HasFault e t
  pub not_both : (t : Term) (e e1 : Env) (k : Kind) (p : ℕ) (r : Reason) → Types e t k e1 → Faults e t p r → ⊥
  pub same_kind : (t : Term) (e e1 e2 : Env) (k l : Kind) → Types e t k e1 → Types e t l e2 → k ≡ l
  pub same_after : (t : Term) (e e1 e2 : Env) (k l : Kind) → Types e t k e1 → Types e t l e2 → e1 ≡ e2
  pub same_place : (t : Term) (e : Env) (p q : ℕ) (r s : Reason) → Faults e t p r → Faults e t q s → p ≡ q
  pub same_reason : (t : Term) (e : Env) (p q : ℕ) (r s : Reason) → Faults e t p r → Faults e t q s → r ≡ s
