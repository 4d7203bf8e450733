-- HOW LONG AN ORDER OF A PROGRAM IS (this project's rules): its plain steps, and the threads that they start, are few beside the nodes of the program's tree.
use Rattle.std.specs.Prelude.{◌≡◌, ◌≤◌, ℕ, ◌+◌, ◌*◌, List, length, Some}
use Rattle.fr_base.specs.Lists.{tot}
use Rattle.fr_base.specs.declared.step.Fresh.{Fresh}
use Rattle.fr_base.specs.declared.step.Fresh.TheVariants as fresh
use Rattle.fr_terms.specs.Terms.{Items, block_t}
use Rattle.fr_plain.specs.Resolve.{program}
use Rattle.fr_plain.specs.Whole.{Turn, Stepped, plain}
use Rattle.law_length_programs.specs.sizes.Size.{nodes_of, HaveBlocks}

-- the threads that a step starts
abbrev pub named : Fresh → ℕ
named (fresh.Thread t) = 1
named (fresh.Threads t u) = 2
named names = 0

-- those that an order starts
abbrev pub started : List Turn → ℕ
started order = tot (λ (x : Turn). named x.1) order

-- the plain steps of an order that is one of a program, and its threads, main among them, are at most twice the nodes of the program's tree
abbrev pub OrdersAreShort : Type 0
OrdersAreShort = (at : ℕ) (items : Items) (order : List Turn) (x : Stepped) → HaveBlocks items → plain (program (block_t at items)) order ≡ Some x → length order + (started order + 1) ≤ 2 * nodes_of (block_t at items)
