-- Why a source has no run: causes, and that they exclude one another.
use Rattle.std.proofs.Common.{◌≡◌, ◌≢◌, ℕ, List, [], Some, None, sym, ap, ap₂, ◌∙◌, refl, subst}
use Rattle.fr_terms.specs.Terms.{Term}
use Rattle.fr_typing.specs.declared.reason.Reason.{Reason}
use Rattle.fr_typing.specs.Typing.{Faults}
use Rattle.fr_typing.specs.Finding.{typed, fault}
use Rattle.fr_typing.specs.Typing.{typing}
use Rattle.fr_typing.proofs.Agree.{exactly_one_lem}
use Rattle.fr_typing.proofs.Outcomes.{one_outcome_lem}
use Rattle.fr_syntax.proofs.OneReading.{one_tokens, one_refusal, never_both}
use Rattle.fr_grammar.specs.declared.fault.ParseError.{ParseError}
use Rattle.fr_grammar.specs.Table.{refusal}
use Rattle.fr_grammar.specs.Source.{IsSource}
use Rattle.fr_grammar.proofs.Programs.{source_once, refused_no_source}
use Rattle.fr_grammar.proofs.FirstRefusal.{spelled_unrefused}
use Rattle.source_front.specs.declared.refused.Refused.{Refused}
use Rattle.source_front.specs.declared.refused.Refused.TheVariants.{Tokens, Grammar, Fault, Order, NoMemory}
use Rattle.source_front.specs.Typed.{IsTyped}
use Rattle.source_front.specs.Refusals.{IsUnparsed, IsFaulty, HasCause, IsRefusedBy}

-- a refusal that is no want of memory has its cause
pub has_cause : (bytes : List ℕ) (why : Refused) → why ≢ NoMemory → IsRefusedBy bytes why → HasCause bytes why
has_cause bytes (Tokens e) other h = h
has_cause bytes (Grammar e) other h = h
has_cause bytes (Fault place why) other h = h
has_cause bytes (Order place) other h = h
has_cause bytes NoMemory other h = absurd (other refl)

-- bytes that have tokens of a program have no refusal in the table
parsed : (bytes : List ℕ) (t : Term) (e : ParseError) → IsSource bytes t → IsUnparsed bytes e → ⊥
parsed bytes t e s h =
    let same = one_tokens bytes s.ts h.ts s.names h.names s.tokens h.tokens in
    let bad : None ≡ Some e = sym (spelled_unrefused s.names s.ts t s.program) ∙ ap refusal same ∙ h.first in
    cc

-- tokens have one first refusal
one_unparsed : (bytes : List ℕ) (e f : ParseError) → IsUnparsed bytes e → IsUnparsed bytes f → e ≡ f
one_unparsed bytes e f h g =
    let same = one_tokens bytes h.ts g.ts h.names g.names h.tokens g.tokens in
    let both : Some e ≡ Some f = sym h.first ∙ ap refusal same ∙ g.first in
    cc

-- a source with a fault
pub faulty : (bytes : List ℕ) (t : Term) (at : ℕ) (reason : Reason) → IsSource bytes t → Faults [] t at reason → IsFaulty bytes at reason
faulty bytes t at reason s f = record { term = t; source = s; faults = f }

-- bytes have one first fault at most
one_fault : (bytes : List ℕ) (p q : ℕ) (r s : Reason) → IsFaulty bytes p r → IsFaulty bytes q s → (p ≡ q) × (r ≡ s)
one_fault bytes p q r s h g =
    let same = source_once bytes h.term g.term h.source g.source in
    let f = subst (λ t. Faults [] t p r) same h.faults in
    (one_outcome_lem.same_place g.term [] p q r s f g.faults, one_outcome_lem.same_reason g.term [] p q r s f g.faults)

-- the source of a program has no refusal of its text
pub source_is_read : (bytes : List ℕ) (t : Term) (why : Refused) → IsSource bytes t → HasCause bytes why → ((p : ℕ) (r : Reason) → why ≡ Fault p r → ⊥) → ⊥
source_is_read bytes t (Tokens e) s h none = refused_no_source bytes e t h s
source_is_read bytes t (Grammar e) s h none = parsed bytes t e s h
source_is_read bytes t (Fault p r) s h none = none p r refl
source_is_read bytes t (Order p) s h none = h
source_is_read bytes t NoMemory s h none = h

-- bytes have one cause at most
pub one_cause : (bytes : List ℕ) (a b : Refused) → HasCause bytes a → HasCause bytes b → a ≡ b
one_cause bytes (Tokens e) (Tokens f) h g = ap Tokens (one_refusal bytes e f h g)
one_cause bytes (Tokens e) (Grammar f) h g = absurd (never_both bytes g.ts g.names e g.tokens h)
one_cause bytes (Tokens e) (Fault q s) h g = absurd (refused_no_source bytes e g.term h g.source)
one_cause bytes (Grammar e) (Tokens f) h g = absurd (never_both bytes h.ts h.names f h.tokens g)
one_cause bytes (Grammar e) (Grammar f) h g = ap Grammar (one_unparsed bytes e f h g)
one_cause bytes (Grammar e) (Fault q s) h g = absurd (parsed bytes g.term e g.source h)
one_cause bytes (Fault p r) (Tokens f) h g = absurd (refused_no_source bytes f h.term g h.source)
one_cause bytes (Fault p r) (Grammar f) h g = absurd (parsed bytes h.term f h.source g)
one_cause bytes (Fault p r) (Fault q s) h g = let same = one_fault bytes p q r s h g in ap₂ Fault same.0 same.1
one_cause bytes (Order p) b h g = absurd h
one_cause bytes NoMemory b h g = absurd h
one_cause bytes a (Order q) h g = absurd g
one_cause bytes a NoMemory h g = absurd g

-- a typed program has no fault
not_faulty : (bytes : List ℕ) (t : Term) (at : ℕ) (why : Reason) → IsTyped bytes t → IsFaulty bytes at why → ⊥
not_faulty bytes t at why h f =
    let same = source_once bytes t f.term h.source f.source in
    let a : typing t [] ≡ typed h.kind h.after = (exactly_one_lem.types t [] h.kind h.after).0 h.types in
    let b : typing f.term [] ≡ fault at why = (exactly_one_lem.faults f.term [] at why).0 f.faults in
    let d : typed h.kind h.after ≡ fault at why = sym a ∙ ap (λ u. typing u []) same ∙ b in
    cc

-- the source of a typed program has no refusal
pub typed_unrefused : (bytes : List ℕ) (t : Term) (why : Refused) → IsTyped bytes t → HasCause bytes why → ⊥
typed_unrefused bytes t why h cause = source_is_read bytes t why h.source cause (λ p r e. not_faulty bytes t p r h (subst (HasCause bytes) e cause))
