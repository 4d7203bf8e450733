-- What events leave of the hops ahead of a thread.
use Rattle.std.proofs.Common.{◌≡◌, ◌≤◌, ℕ, ◌+◌, true, false, List, [], ◌∷◌, ◌++◌, Option, Some, None, refl, ap, arith}
use Rattle.law_walks_own.specs.Below.fr_base.declared.instruction.Instr.{Instr}
use Rattle.law_walks_own.specs.Below.fr_base.declared.instruction.Instr.TheVariants as instr
use Rattle.law_walks_own.specs.Below.thread_state.View.{ThreadState}
use Rattle.law_walks_own.specs.Below.fr_base.declared.name.ObjNo.{ObjNo}
use Rattle.law_walks_own.specs.Below.fr_base.declared.place.Lval.{Lval}
use Rattle.law_walks_own.specs.Below.journal.View.{EntryView}
use Rattle.law_walks_own.specs.Below.server_msgs.declared.message.Message.TheVariants.{Move, Drop}
use Rattle.law_walks_own.specs.Below.server_model.declared.event.Event.{Event}
use Rattle.law_walks_own.specs.Below.server_model.Servers.{Cluster}
use Rattle.law_walks_own.specs.Below.server_model.Clusters.{apply}
use Rattle.law_walks_own.specs.Below.coherent_memory.Follow.{Standing}
use Rattle.law_walks_own.specs.Below.coherent_memory.Paths.{Path, no_path, reads, shares, lends, writes, ends, path_of}
use Rattle.law_walks_own.specs.Below.coherent_memory.Sight.{sight}
use Rattle.law_walks_own.specs.Below.coherent_memory.Walking.{instr_of, path}
use Rattle.law_walks_own.specs.Below.law_counts_sums.Kinds.{fetched}
use Rattle.law_walks_own.specs.Below.law_counts_sums.Laws.{Gives}
use Rattle.law_walks_own.proofs.Below.law_counts_sums.Results.{both_give, weaker}
use Rattle.law_walks_own.specs.Below.law_counts_waiting.waits.Places.{Follows}
use Rattle.law_walks_own.specs.Below.law_walks_others.pointers.Pointers.{SamePointers}
use Rattle.law_walks_own.specs.Below.law_walks_others.pointers.Steady.{AlikePointers}
use Rattle.law_walks_own.proofs.Below.law_walks_others.pointers.Sentences.{SameOn}
use Rattle.law_walks_own.proofs.Below.law_walks_others.pointers.Ways.{same_on}
use Rattle.law_walks_own.proofs.Below.law_walks_others.pointers.Followed.{same_settings}
use Rattle.law_walks_own.proofs.Below.law_walks_others.pointers.Others.{others_step}
use Rattle.law_walks_own.proofs.Below.law_walks_others.pointers.Steady.{steady_pointers}
use Rattle.law_walks_own.proofs.Below.law_walks_others.pointers.Delivered.{moves_pointers, drops_pointers}
use Rattle.law_length_asks.specs.ahead.Ahead.{ahead, ahead_on, SameAhead, OthersStepsLeaveAhead, SteadyEventsLeaveAhead, DeliveryLeavesAhead, with_copy, CopiesLeadOn}
use Rattle.law_length_asks.proofs.ahead.Same.{ahead_same}
use Rattle.law_length_asks.proofs.ahead.Lists.{copy_leads}

abbrev Settings : Cluster → Cluster × EntryView → Type 0
Settings k d = (d.0.code ≡ k.code) × (d.0.options ≡ k.options)

-- for each place that the thread follows a fact of it gives one of all
all_give : {A B : Type 0} (P : A → B → Type 0) (o : Option B) → ((a : A) → Gives (P a) o) → Gives (λ b. (a : A) → P a b) o
all_give P None f = tt
all_give P (Some b) f = λ a. f a

-- where the pointers of each place that it follows are the same, as many are ahead
by_pointers : (k : Cluster) (e : Event) (x : Standing) → ((w : Lval) → Follows k x w → Gives (λ (d : Cluster × EntryView). SamePointers k d.0 x.thread.number w) (apply k e)) → Gives (SameAhead k x) (apply k e)
by_pointers k e x f =
    both_give (Settings k) (λ (d : Cluster × EntryView). (w : Lval) → Follows k x w → SamePointers k d.0 x.thread.number w) (SameAhead k x) (apply k e) (same_settings k e)
    (all_give (λ (w : Lval) (d : Cluster × EntryView). Follows k x w → SamePointers k d.0 x.thread.number w) (apply k e) (λ w.
    all_give (λ (h : Follows k x w) (d : Cluster × EntryView). SamePointers k d.0 x.thread.number w) (apply k e) (f w))) (λ d a b. ahead_same k d.0 x a.0 a.1 (same_on k d.0 x b))

pub others_leave : OthersStepsLeaveAhead
others_leave k e t is coherent few x g ne = by_pointers k e x (λ w f. others_step k e t is coherent few x w g ne f)

pub moves_leave : (w : ℕ) (o : ObjNo) (s t : ℕ) → DeliveryLeavesAhead (Move w o s t)
moves_leave w o s t k e d coherent few x g = by_pointers k e x (λ v f. moves_pointers w o s t k e d coherent few x v g f)

pub drops_leave : (w : ℕ) (o : ObjNo) → DeliveryLeavesAhead (Drop w o)
drops_leave w o k e d coherent few x g = by_pointers k e x (λ v f. drops_pointers w o k e d coherent few x v g f)

-- where all pointers lead alike, those of a path do
alike_on : (k c : Cluster) (t : ℕ) → ((t : ℕ) (w : Lval) → AlikePointers k c t w) → (p : Path) → SameOn k c t p
alike_on k c t f no_path = tt
alike_on k c t f (reads w) = λ n lt. (f t w n).1
alike_on k c t f (shares w) = λ n lt. (f t w n).1
alike_on k c t f (lends w) = λ n lt. (f t w n).1
alike_on k c t f (writes w) = λ n lt. (f t w n).1
alike_on k c t f (ends r) = λ n lt. (f t r.holder n).1

pub steady_leave : SteadyEventsLeaveAhead
steady_leave kind steady k e is sound few x =
    both_give (Settings k) (λ (d : Cluster × EntryView). (t : ℕ) (w : Lval) → AlikePointers k d.0 t w) (SameAhead k x) (apply k e) (same_settings k e) (steady_pointers kind steady k e is sound few)
    (λ d a b. ahead_same k d.0 x a.0 a.1 (alike_on k d.0 x.thread.number b (path (sight k) x)))

-- a thread's path doesn't see its walk
walked : (o : Option Instr) (t : ThreadState) (ws : List ℕ) → path_of o (record t { walk = ws }) ≡ path_of o t
walked None t ws = refl
walked (Some (instr.Read w true)) t ws = refl
walked (Some (instr.Read w false)) t ws = refl
walked (Some (instr.Dup w)) t ws = refl
walked (Some (instr.Lock w)) t ws = refl
walked (Some (instr.Borrow w)) t ws = refl
walked (Some (instr.BorrowMut w)) t ws = refl
walked (Some (instr.Assign w o)) t ws = refl
walked (Some instr.DropSlot) t ws = refl
walked (Some instr.Discard) t ws = refl
walked (Some (instr.Let o)) t ws = refl
walked (Some (instr.Box o)) t ws = refl
walked (Some (instr.Arith f a b)) t ws = refl
walked (Some (instr.Print o)) t ws = refl
walked (Some (instr.Spawn cs pc)) t ws = refl
walked (Some (instr.Join o)) t ws = refl
walked (Some (instr.Mutex o)) t ws = refl
walked (Some instr.Unlock) t ws = refl
walked (Some (instr.Par cs pc ds other)) t ws = refl
walked (Some instr.ParEnd) t ws = refl
walked (Some (instr.End o)) t ws = refl

-- with the copy that comes, fewer are
pub copies_lead : CopiesLeadOn
copies_lead k e is sound few x w a turn copy =
    weaker (SameAhead k (with_copy a.word x)) (λ (d : Cluster × EntryView). ahead (sight d.0) (with_copy a.word x) + 1 ≤ ahead (sight k) x) (apply k e) (steady_leave fetched tt k e is sound few (with_copy a.word x)) (λ d same.
    let way : ahead (sight k) (with_copy a.word x) ≡ ahead_on (sight k) (with_copy a.word x) (path (sight k) x) = ap (ahead_on (sight k) (with_copy a.word x)) (walked (instr_of (sight k) x) x.thread (x.thread.walk ++ a.word ∷ [])) in
    omega (arith, same, way, copy_leads (sight k) x w a (path (sight k) x) turn copy))
