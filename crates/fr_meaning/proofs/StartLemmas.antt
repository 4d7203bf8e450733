-- What is known where a thread starts another.
use Rattle.std.proofs.Common.{Vec, Global, ◌≡◌, ℕ, ◌<◌, ◌≤◌, List, [], length, get_or, Some, refl, sym, ap, ◌∙◌, subst, arith}
use Rattle.std.specs.Prelude.{IsSome}
use Rattle.fr_plain.specs.declared.value.Value.{Value}
use Rattle.fr_plain.specs.Run.{Run, owing}
use Rattle.fr_plain.specs.Threads.{Passed, pass, Thread as PlainThread}
use Rattle.fr_forms.specs.declared.forms.Captured.{Captured}
use Rattle.fr_forms.specs.declared.forms.Form.{Form}
use Rattle.fr_forms.specs.declared.forms.Form.TheVariants as form
use Rattle.fr_meaning.specs.declared.frame.Focus.{Focus}
use Rattle.fr_meaning.specs.declared.thread.Stage.{Stage}
use Rattle.fr_meaning.specs.declared.thread.Stage.TheVariants as stage
use Rattle.fr_meaning.specs.declared.thread.Thread.{Thread}
use Rattle.fr_forms.specs.Depths.{depth}
use Rattle.fr_forms.specs.FormTerms.{captures_of, captures_in, captures_at, term_of, IsSpawn}
use Rattle.fr_meaning.specs.FrameTerms.{wrapped, focus_run, HasMadeWay}
use Rattle.fr_acts.specs.SlotOrder.{newest_first}
use Rattle.fr_meaning.specs.declared.frame.TheConstants.{FRAMES}
use Rattle.fr_meaning.specs.Threads.{run_in, IsWell, life_at, thread_of, AreWell, Starts}
use Rattle.fr_forms.proofs.FormLemmas.{get_or-any}
use Rattle.fr_meaning.proofs.FrameLemmas.{length_depth}
use Rattle.fr_meaning.proofs.ThreadLists.{well_at}

-- the thread is well, its next term starts one and stands in its frames, and is no deeper than they are
pub record StartFacts (fs : List Form) (x : Thread) (node : ℕ) : Type 0 where
  pub well : IsWell fs x
  pub inside : node < length fs
  pub spawn : IsSpawn (get_or fs node form.Unit)
  pub run : run_in fs x ≡ wrapped fs x.frames.items (term_of fs node)
  pub depth : depth (term_of fs node) ≤ FRAMES

pub start_facts : (fs : List Form) (xs : List Thread) (i : ℕ) (x : Thread) (node : ℕ) → i < length xs → x ≡ get_or xs i x → AreWell fs xs → Starts fs x node → StartFacts fs x node
start_facts fs xs i x node lt is all s =
    let well = well_at fs xs i x lt is all in
    let way = subst (λ (f : Focus). HasMadeWay fs x.frames.items f) s.at_start well.way in
    let run = ap (λ (f : Focus). wrapped fs x.frames.items (focus_run fs f)) s.at_start in
    record {
      well = well;
      inside = way.0;
      spawn = way.1;
      run = run;
      depth = omega (arith, length_depth fs x.frames.items (term_of fs node), ap depth run, well.depth);
    }

-- the captures of the form that stands there
pub captures_here : (ns : List Form) (i : ℕ) (e m : Form) → i < length ns → e ≡ get_or ns i e → e ≡ m → captures_at ns i ≡ captures_in m
captures_here ns i e m lt is h = ap captures_in (get_or-any ns i form.Unit e lt ∙ sym is ∙ h)

-- the same captures over equal lists
pub same_passes : (cs ds : List Captured) (slots : List Value) (new none : List Value) → cs ≡ ds → new ≡ [] → IsSome (pass (captures_of cs) (newest_first slots) []) → IsSome (pass (captures_of ds) (newest_first slots) (newest_first new))
same_passes cs ds slots new none a b h =
    subst (λ es. IsSome (pass (captures_of es) (newest_first slots) (newest_first new))) a (subst (λ vs. IsSome (pass (captures_of cs) (newest_first slots) (newest_first vs))) (sym b) h)

pub same_passed : (cs ds : List Captured) (slots : List Value) (new : List Value) (p : Passed) → cs ≡ ds → new ≡ [] → pass (captures_of cs) (newest_first slots) (newest_first new) ≡ Some p → pass (captures_of ds) (newest_first slots) [] ≡ Some p
same_passed cs ds slots new p a b h =
    subst (λ es. pass (captures_of es) (newest_first slots) [] ≡ Some p) a (subst (λ vs. pass (captures_of cs) (newest_first slots) (newest_first vs) ≡ Some p) b h)

-- a new thread, by its parts
pub started_same : (fs : List Form) (n : Thread) (u : ℕ) (q : Run) (vs : List Value) → n.number ≡ u → n.stage ≡ stage.Owing → run_in fs n ≡ q → n.slots.items ≡ vs → thread_of fs n ≡ record { number = u; life = owing q; slots = newest_first vs }
started_same fs n u q vs a b c d =
    ap (λ k. parts k n.stage (run_in fs n) n.slots.items) a ∙ ap (λ g. parts u g (run_in fs n) n.slots.items) b ∙ ap (λ r. parts u stage.Owing r n.slots.items) c ∙ ap (parts u stage.Owing q) d
  where
    parts : ℕ → Stage → Run → List Value → PlainThread
    parts k g r ws = record { number = k; life = life_at g r; slots = newest_first ws }

-- no other form stands there
pub not_other : (ns : List Form) (i : ℕ) (e : Form) → i < length ns → IsSpawn (get_or ns i form.Unit) → e ≡ get_or ns i e → ((cs : Vec Captured Global) (body drops : ℕ) → e ≡ form.Spawn cs body drops → ⊥) → ⊥
not_other ns i e lt s is other = by e refl (subst IsSpawn (get_or-any ns i form.Unit e lt ∙ sym is) s)
  where
    by : (m : Form) → e ≡ m → IsSpawn m → ⊥
    by (form.Spawn cs body drops) q h = other cs body drops q
    by (form.Number x) q h = h
    by form.Unit q h = h
    by (form.Read w take) q h = h
    by (form.Borrow w is_mut) q h = h
    by (form.Box x) q h = h
    by (form.Let x) q h = h
    by (form.Print x) q h = h
    by (form.Join x) q h = h
    by (form.Mutex x) q h = h
    by (form.Dup place) q h = h
    by (form.Lock place x k2) q h = h
    by (form.Par ours theirs) q h = h
    by (form.Assign w x) q h = h
    by (form.Arith f x y) q h = h
    by (form.Block items lets) q h = h
    by form.Place q h = h
