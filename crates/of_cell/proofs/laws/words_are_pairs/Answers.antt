use Rattle.of_cell.proofs.laws.words_are_pairs.Goals as goal
use Rattle.of_cell.proofs.Order.{seq_word, pay_word, word_eta, in_order}

pub returns-clause-parts : goal.returns-clause-parts
returns-clause-parts c = λ s p h. (seq_word s p h, pay_word s p h)

pub returns-clause-whole : goal.returns-clause-whole
returns-clause-whole c = word_eta

pub returns-clause-order : goal.returns-clause-order
returns-clause-order c = in_order
