-- The crate's answers as those of document 01. Assumes nothing.
use Rattle.answers.specs.Answers as answers
use Rattle.answers.specs.declared.answer.Answer.{Answer}

abbrev pub row_of : Answer → answers.Answer
row_of a = record { number = a.number; place = a.place }
