-- Checked programs, from what the checker answers at the root.
use Rattle.std.proofs.Common.{◌≡◌, ℕ, ◌+◌, ◌<◌, ◌≤◌, List, [], length, sym, ap, ◌∙◌, subst, arith}
use Rattle.std.specs.Prelude.{Err}
use Rattle.fr_terms.specs.Terms as terms
use Rattle.fr_typing.specs.Kinds.{Kind}
use Rattle.fr_typing.specs.Places.{Env}
use Rattle.fr_typing.specs.Finding.{typed}
use Rattle.fr_typing.specs.Typing.{typing}
use Rattle.fr_typing.specs.Laws.{IsTyped}
use Rattle.fr_typing.proofs.Agree.{exactly_one_lem}
use Rattle.fr_syntax.specs.Arena.{Arena}
use Rattle.fr_syntax.specs.Ordered.{IsArena}
use Rattle.fr_syntax.specs.Meanings.{meanings, meaning_at, term_at, root_of, term_of}
use Rattle.fr_syntax.proofs.TreeLemmas.{length_meanings}
use Rattle.fr_types.specs.Bounds.{most_slots}
use Rattle.borrow_check.specs.declared.check_error.CheckError.{CheckError}
use Rattle.borrow_check.specs.declared.check_error.CheckError.TheVariants.{Fault, NoMemory}
use Rattle.borrow_check.specs.declared.usage.Usage.{Usage}
use Rattle.fr_types.specs.States.{Held, env_of}
use Rattle.borrow_check.specs.Rules.{Gives}
use Rattle.borrow_check.specs.Usages.{usages_of, AreUsed, AreWritten}
use Rattle.borrow_check.specs.Programs.{IsCheckable, IsChecked, IsFault}
use Rattle.borrow_check.proofs.NodeLemmas.{nodes_few}
use Rattle.borrow_check.proofs.UsageLemmas.{used_of_written, written_long}

-- the slots of a term that starts without any are few
pub few_at_root : (a : Arena) (at : ℕ) (vs : List Held) → IsArena a → IsCheckable a → at ≡ root_of a → vs ≡ [] → length vs + length (meaning_at (meanings a) at).nodes ≤ most_slots
few_at_root a at vs arena checkable root none =
    let here : root_of a < length (meanings a) = omega (arith, checkable.tree.some, length_meanings a) in
    let few = nodes_few a (root_of a) arena here checkable.tree.own in
    subst (λ n. length vs + length (meaning_at (meanings a) n).nodes ≤ most_slots) (sym root)
    (omega (arith, few, ap length none))

-- a typed term has a type by the rules
pub typed_by : (t : terms.Term) (k : Kind) (after : Env) → typing t [] ≡ typed k after → IsTyped [] t
typed_by t k after h = record {
  kind = k;
  after = after;
  types = (exactly_one_lem.types t [] k after).1 h;
}

-- an error at the root is the tree's first fault
pub fault_at_root : (a : Arena) (at : ℕ) (vs : List Held) (e : CheckError) (after : Env) → at ≡ root_of a → vs ≡ [] → Gives (Err e) (typing (term_at (meanings a) at) (env_of a.names vs)) after → IsFault e (term_of a)
fault_at_root a at vs NoMemory after root none h = tt
fault_at_root a at vs (Fault p r) after root none h =
    let start : typing (term_of a) [] ≡ typing (term_at (meanings a) at) (env_of a.names vs) =
    ap (λ n. typing (term_at (meanings a) n) []) (sym root) ∙ ap (λ l. typing (term_at (meanings a) at) (env_of a.names l)) (sym none) in
    (exactly_one_lem.faults (term_of a) [] p r).1 (start ∙ h)

-- a type at the root is the tree's
pub typed_at_root : (a : Arena) (at : ℕ) (vs : List Held) (k : Kind) (after : Env) → at ≡ root_of a → vs ≡ [] → typing (term_at (meanings a) at) (env_of a.names vs) ≡ typed k after → IsTyped [] (term_of a)
typed_at_root a at vs k after root none h =
    typed_by (term_of a) k after
    (ap (λ n. typing (term_at (meanings a) n) []) (sym root) ∙ ap (λ l. typing (term_at (meanings a) at) (env_of a.names l)) (sym none) ∙ h)

-- and the program is checked
pub checked_at_root : (a : Arena) (at : ℕ) (vs : List Held) (k : Kind) (after : Env) (old new : List Usage) → IsArena a → IsCheckable a → at ≡ root_of a → vs ≡ [] → typing (term_at (meanings a) at) (env_of a.names vs) ≡ typed k after → AreWritten old new (meaning_at (meanings a) at).nodes (usages_of (term_at (meanings a) at) (env_of a.names vs)) → length old ≡ length (meanings a) → IsChecked (record { arena = a; usages = new })
checked_at_root a at vs k after old new arena checkable root none types wrote long =
    let nodes = (meaning_at (meanings a) (root_of a)).nodes in
    let usages = usages_of (term_of a) [] in
    let here : AreWritten old new nodes usages =
    subst (λ n. AreWritten old new (meaning_at (meanings a) n).nodes (usages_of (term_at (meanings a) n) [])) root
    (subst (λ l. AreWritten old new (meaning_at (meanings a) at).nodes (usages_of (term_at (meanings a) at) (env_of a.names l))) none wrote) in
    record {
      arena = arena;
      checkable = checkable;
      typed = typed_at_root a at vs k after root none types;
      used = subst (λ l. AreUsed l nodes usages) (sym here.same) (used_of_written old nodes usages checkable.tree.own here.each here.within);
      long = written_long old new nodes usages here ∙ long;
    }
