-- Weights that see of a cell neither its address nor words in it; and a list from which one thing is taken out.
use Rattle.std.proofs.Common.{◌≡◌, inl, inr, ℕ, ◌+◌, List, [], ◌∷◌, refl, ap, ap₂, arith}
use Rattle.law_heap_writes.specs.Below.fr_base.declared.name.ObjNo.{ObjNo}
use Rattle.law_heap_writes.specs.Below.fr_base.declared.label.Plain.{Plain}
use Rattle.law_heap_writes.specs.Below.heap_partition.Plain.{plain_of}
use Rattle.law_heap_writes.specs.Below.heap_partition.declared.value.Cell.{Cell}
use Rattle.law_entries_reads.specs.Below.law_entries_variables.Below.coloured_heap.Heap.{Place, Lies, Copied, Wish, Running}
use Rattle.law_heap_writes.specs.Below.fr_base.declared.name.MutexNo.{MutexNo}
use Rattle.law_heap_writes.specs.Below.server_model.Servers.{Cluster}
use Rattle.law_heap_writes.specs.Below.coherent_memory.Names.{Among, tot, same_object}
use Rattle.law_heap_writes.specs.Below.coherent_memory.Things.{Thing, lies, vacant, retired}
use Rattle.law_heap_writes.specs.Below.coherent_memory.Sight.{sight}
use Rattle.law_heap_writes.specs.Below.coherent_memory.Weights.{is_thread}
use Rattle.law_heap_writes.specs.Below.coherent_memory.Naming.{started_at, made_at}
use Rattle.law_heap_writes.proofs.Below.law_heap_still.events.Told.{told}
use Rattle.law_entries_reads.proofs.Below.law_entries_variables.deliveries.Weighed.{Seen}
use Rattle.law_entries_reads.proofs.Below.law_entries_variables.deliveries.Shown.{if_some, placed_in, dropped_by, copy_in, served_in, wished_in, runs, holder_by, there_in}
use Rattle.law_entries_reads.proofs.Below.law_entries_variables.deliveries.Live.{placed_seen, dropped_seen}

-- a weight of what the coloured heap sees, which sees of a cell its server, its object and its value without words, and no other addresses
pub record Blind (f : Thing → ℕ) : Type 0 where
  pub seen : Seen f
  pub lying : (r a b : ℕ) (c d : Cell) → c.object ≡ d.object → plain_of c.value ≡ plain_of d.value → f (lies r a c) ≡ f (lies r b d)
  pub free : (r a m : ℕ) → f (vacant r a m) ≡ 0
  pub left : (r a : ℕ) → f (retired r a) ≡ 0

-- all that is asked but which words are issued
pub placed_blind : (o : ObjNo) (g : Plain × Place → ℕ) → Blind (λ x. told g (placed_in o x))
placed_blind o g = record { seen = placed_seen o g; lying = λ r a b c d e f. ap₂ (λ p v. told g (if_some (same_object p o) (v, Lies r))) e f; free = λ r a m. refl; left = λ r a. refl }

pub dropped_blind : (o : ObjNo) → Blind (dropped_by o)
dropped_blind o = record { seen = dropped_seen o; lying = λ r a b c d e f. refl; free = λ r a m. refl; left = λ r a. refl }

pub copy_blind : (r w : ℕ) (g : Copied → ℕ) → Blind (λ x. told g (copy_in r w x))
copy_blind r w g = record { seen = record { held = λ p v. refl; shared = λ l q. refl; lent = λ l q. refl; flown = λ v c. refl; used = λ r v. refl; loose = λ u i o. refl; counted = λ r b q s o e. refl; unused = λ i d u. refl }; lying = λ q a b c d e f. refl; free = λ q a m. refl; left = λ q a. refl }

pub served_blind : (a : Copied) → Blind (served_in a)
served_blind a = record { seen = record { held = λ p v. refl; shared = λ l q. refl; lent = λ l q. refl; flown = λ v c. refl; used = λ r v. refl; loose = λ u i o. refl; counted = λ r b q s o e. refl; unused = λ i d u. refl }; lying = λ r b d x y e f. refl; free = λ r b m. refl; left = λ r b. refl }

pub wished_blind : (a : Wish) → Blind (wished_in a)
wished_blind a = record { seen = record { held = λ p v. refl; shared = λ l q. refl; lent = λ l q. refl; flown = λ v c. refl; used = λ r v. refl; loose = λ u i o. refl; counted = λ r b q s o e. refl; unused = λ i d u. refl }; lying = λ r b d x y e f. refl; free = λ r b m. refl; left = λ r b. refl }

pub there_blind : (m : MutexNo) → Blind (there_in m)
there_blind m = record { seen = record { held = λ p v. refl; shared = λ l q. refl; lent = λ l q. refl; flown = λ v c. refl; used = λ r v. refl; loose = λ u i o. refl; counted = λ r b q s o e. refl; unused = λ i d u. refl }; lying = λ r b d x y e f. refl; free = λ r b q. refl; left = λ r b. refl }

pub started_blind : (s n : ℕ) → Blind (started_at s n)
started_blind s n = record { seen = record { held = λ p v. refl; shared = λ l q. refl; lent = λ l q. refl; flown = λ v c. refl; used = λ r v. refl; loose = λ u i o. refl; counted = λ r b q s o e. refl; unused = λ i d u. refl }; lying = λ r b d x y e f. refl; free = λ r b q. refl; left = λ r b. refl }

pub made_blind : (s n : ℕ) → Blind (made_at s n)
made_blind s n = record { seen = record { held = λ p v. refl; shared = λ l q. refl; lent = λ l q. refl; flown = λ v c. refl; used = λ r v. refl; loose = λ u i o. refl; counted = λ r b q s o e. refl; unused = λ i d u. refl }; lying = λ r b d x y e f. refl; free = λ r b q. refl; left = λ r b. refl }

pub runs_blind : (g : Running → ℕ) (t : ℕ) → Blind (runs g t)
runs_blind g t = record { seen = record { held = λ p v. refl; shared = λ l q. refl; lent = λ l q. refl; flown = λ v c. refl; used = λ r v. refl; loose = λ u i o. refl; counted = λ r b q s o e. refl; unused = λ i d u. refl }; lying = λ r b d x y e f. refl; free = λ r b q. refl; left = λ r b. refl }

pub thread_blind : (t : ℕ) → Blind (is_thread t)
thread_blind t = record { seen = record { held = λ p v. refl; shared = λ l q. refl; lent = λ l q. refl; flown = λ v c. refl; used = λ r v. refl; loose = λ u i o. refl; counted = λ r b q s o e. refl; unused = λ i d u. refl }; lying = λ r b d x y e f. refl; free = λ r b q. refl; left = λ r b. refl }

pub holder_blind : (k : Cluster) (m : MutexNo) (g : ℕ → ℕ) → Blind (λ x. told g (holder_by (sight k) m x))
holder_blind k m g = record { seen = record { held = λ p v. refl; shared = λ l q. refl; lent = λ l q. refl; flown = λ v c. refl; used = λ r v. refl; loose = λ u i o. refl; counted = λ r b q s o e. refl; unused = λ i d u. refl }; lying = λ r b d x y e f. refl; free = λ r b q. refl; left = λ r b. refl }

-- ONE THING IS TAKEN OUT

-- what is left of the list
pub taken_out : (x : Thing) (b : List Thing) → Among x b → (rest : List Thing) × ((f : Thing → ℕ) → tot f b ≡ f x + tot f rest)
taken_out x [] m = absurd m
taken_out x (y ∷ b) (inl e) = (b, λ f. ap (λ z. f z + tot f b) e)
taken_out x (y ∷ b) (inr m) =
    let r = taken_out x b m in
    (y ∷ r.0, λ f. omega (arith, r.1 f))
