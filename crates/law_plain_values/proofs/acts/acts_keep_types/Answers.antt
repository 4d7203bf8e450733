use Rattle.law_plain_values.proofs.acts.acts_keep_types.Goals as goal
use Rattle.law_plain_values.proofs.acts.Numbers.{print_keeps, arith_keeps}
use Rattle.law_plain_values.proofs.acts.Borrows.{borrow_keeps, borrow_mut_keeps}
use Rattle.law_plain_values.proofs.acts.Copies.{copy_keeps}
use Rattle.law_plain_values.proofs.acts.Lets.{let_keeps}

pub returns-clause-print : goal.returns-clause-print
returns-clause-print c = print_keeps

pub returns-clause-arith : goal.returns-clause-arith
returns-clause-arith c = arith_keeps

pub returns-clause-borrow : goal.returns-clause-borrow
returns-clause-borrow c = borrow_keeps

pub returns-clause-borrow_mut : goal.returns-clause-borrow_mut
returns-clause-borrow_mut c = borrow_mut_keeps

pub returns-clause-copy : goal.returns-clause-copy
returns-clause-copy c = copy_keeps

pub returns-clause-bind : goal.returns-clause-bind
returns-clause-bind c = let_keeps
