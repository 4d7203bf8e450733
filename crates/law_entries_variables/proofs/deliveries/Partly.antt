-- Events that change wishes and holders alone.
use Rattle.std.proofs.Common.{◌≡◌, ℕ, ◌+◌, ◌-◌, ◌≤◌, Bool, true, false, if◌then◌else◌, List, Option, is_none, refl, ap, ◌∙◌, arith}
use Rattle.law_words_ends.specs.Below.fr_base.declared.name.MutexNo.{MutexNo}
use Rattle.law_words_ends.specs.Below.fr_base.declared.name.ObjNo.{ObjNo}
use Rattle.law_words_ends.specs.Below.fr_base.declared.label.Plain.{Plain}
use Rattle.law_words_ends.specs.Below.server_model.Servers.{Cluster}
use Rattle.law_words_ends.specs.Below.law_words_kept.Below.coloured_heap.Heap.{Place, Copied, Wish, Running, same_wish}
use Rattle.law_words_ends.proofs.Below.law_words_kept.Below.coloured_heap.ShownNames.{wish_itself}
use Rattle.law_words_ends.specs.Below.coherent_memory.Names.{tot, one}
use Rattle.law_words_ends.specs.Below.coherent_memory.Things.{Thing}
use Rattle.law_words_ends.specs.Below.coherent_memory.Sight.{sight}
use Rattle.law_words_ends.specs.Below.coherent_memory.Weights.{is_thread}
use Rattle.law_words_ends.specs.Below.coherent_memory.Naming.{started_at, made_at}
use Rattle.law_words_ends.specs.Below.coherent_memory.Colours.{wishes_of, holder_of, running_of}
use Rattle.law_words_ends.specs.Below.coherent_memory.Coherent.{IsSound}
use Rattle.law_words_ends.proofs.Below.law_heap_still.events.Told.{told}
use Rattle.law_entries_variables.proofs.deliveries.Answers.{Agrees, answers_of, less_wish}
use Rattle.law_entries_variables.proofs.deliveries.Shown.{placed_in, dropped_by, copy_in, served_in, wished_in, runs, there_in}
use Rattle.law_entries_variables.proofs.deliveries.Live.{issued_by}
use Rattle.law_entries_variables.proofs.deliveries.After.{Follows, Keeps, living_still, copy_still, served_still, issued_still, started_still, running_still, ended_by, wishes_after, made_still, there_still}

-- all but wishes and holders stays
pub record Partly (k : Cluster) (olds news : List Thing) : Type 0 where
  pub objects : (o : ObjNo) (g : Plain × Place → ℕ) → tot (λ x. told g (placed_in o x)) olds ≡ tot (λ x. told g (placed_in o x)) news
  pub drops : (o : ObjNo) → tot (dropped_by o) olds ≡ tot (dropped_by o) news
  pub copies : (r w : ℕ) (g : Copied → ℕ) → tot (λ x. told g (copy_in r w x)) olds ≡ tot (λ x. told g (copy_in r w x)) news
  pub served : (a : Copied) → tot (served_in a) olds ≡ tot (served_in a) news
  pub issued : (h : ObjNo → ℕ) (n w : ℕ) → tot (issued_by h n w) olds ≡ tot (issued_by h n w) news
  pub started : (s n : ℕ) → tot (started_at s n) olds ≡ tot (started_at s n) news
  pub made : (s n : ℕ) → tot (made_at s n) olds ≡ tot (made_at s n) news
  pub threads : (t : ℕ) → tot (is_thread t) olds ≡ tot (is_thread t) news
  pub running : (t : ℕ) (g : Running → ℕ) → tot (runs g t) olds ≡ tot (runs g t) news
  pub there : (m : MutexNo) → tot (there_in m) olds ≡ tot (there_in m) news

-- with these wishes and holders
pub part_agrees : (k c : Cluster) (olds news : List Thing) → IsSound k → Follows k c olds news → Keeps k c → Partly k olds news → (w : Wish → ℕ) (h : MutexNo → Option ℕ) → ((a : Wish) → w a ≡ wishes_of (sight c) a) → ((m : MutexNo) → h m ≡ holder_of (sight c) m)
    → Agrees (record (answers_of (sight k)) { wishes = w; holder = h }) (answers_of (sight c))
part_agrees k c olds news sound f keeps q w h wished held =
    let started = started_still k c olds news sound f q.started in
    let running : (t : ℕ) → running_of (sight k) t ≡ running_of (sight c) t = (λ t. running_still k c olds news sound f q.threads t (q.running t)) in record {
      object = λ o. living_still k c olds news sound f keeps o (q.objects o) (q.drops o);
      copy = λ r v. copy_still k c olds news sound f r v (q.copies r v);
      served = λ a. served_still k c olds news sound f a (q.served a);
      issued = λ v. issued_still k c olds news sound f keeps q.issued v;
      started = started;
      running = running;
      ended = ended_by k c started (λ t. ap is_none (running t));
      wishes = wished;
      made = made_still k c olds news sound f q.made;
      there = λ m e. there_still k c olds news sound f m (q.there m) ∙ e;
      holder = held;
    }

-- ONE WISH IS ANSWERED

module _ (k c : Cluster) (olds news : List Thing) (sound : IsSound k) (f : Follows k c olds news) (a : Wish) (less : (b : Wish) → tot (wished_in b) olds ≡ tot (wished_in b) news + one (same_wish b a)) where
  pub wish_answered : (b : Wish) → less_wish a (wishes_of (sight k)) b ≡ wishes_of (sight c) b
  wish_answered b = by (same_wish b a) refl
    where
      by : (d : Bool) → same_wish b a ≡ d → (if d then wishes_of (sight k) b - 1 else wishes_of (sight k) b) ≡ wishes_of (sight c) b
      by true e = let o : one (same_wish b a) ≡ 1 = ap one e in omega (arith, wishes_after k c olds news sound f b, less b, o)
      by false e = let o : one (same_wish b a) ≡ 0 = ap one e in omega (arith, wishes_after k c olds news sound f b, less b, o)

  pub wished_once : 1 ≤ wishes_of (sight k) a
  wished_once = let o : one (same_wish a a) ≡ 1 = ap one (wish_itself a) in omega (arith, wishes_after k c olds news sound f a, less a, o)
