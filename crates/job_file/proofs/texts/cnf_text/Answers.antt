use Rattle.std.proofs.Common.{◌+◌, ◌++◌, ◌≤◌, length, arith}
use Rattle.std.proofs.Math.ListN.{length-append}
use Rattle.text.proofs.Buffers.{room_next, put_then}
use Rattle.job_file.specs.JobFile.{header_line}
use Rattle.job_file.specs.Text.{words_text, flat_text}
use Rattle.job_file.proofs.Prints.{prints_short, prints_bytes}
use Rattle.job_file.proofs.texts.cnf_text.Goals as goal

pub returns-then-out-needed : goal.returns-then-out-needed
unfolding flat_text
returns-then-out-needed c =
    let a = c.args in
    let parts = length-append (header_line a.variables a.clauses) (words_text a.cnf.now) in
    prints_short (flat_text a.variables a.clauses a.cnf.now) a.out.now c.sum-needed.result
    (omega (arith, parts, c.words_size.ensures)) c.if-out-needed.true

pub put_line-next-requires : goal.put_line-next-requires
put_line-next-requires c = omega (arith, c.header_size.ensures, c.sum-needed.ensures, c.if-out-needed.false)

pub put_words-requires : goal.put_words-requires
put_words-requires c =
    let a = c.args in
    let parts = length-append (header_line a.variables a.clauses) (words_text a.cnf.now) in
    let fits : 0 + length (header_line a.variables a.clauses ++ words_text a.cnf.now) ≤ length a.out.now =
    omega (arith, parts, c.header_size.ensures, c.words_size.ensures, c.sum-needed.ensures, c.if-out-needed.false) in
    room_next (words_text a.cnf.now) fits c.put_line-next.ensures

pub returns : goal.returns
unfolding flat_text
returns c =
    let a = c.args in
    let parts = length-append (header_line a.variables a.clauses) (words_text a.cnf.now) in
    let header_fits : 0 + length (header_line a.variables a.clauses) ≤ length a.out.now =
    omega (arith, c.header_size.ensures, c.sum-needed.ensures, c.if-out-needed.false) in
    let fits : length (flat_text a.variables a.clauses a.cnf.now) ≤ length a.out.now =
    omega (arith, parts, c.header_size.ensures, c.words_size.ensures, c.sum-needed.ensures, c.if-out-needed.false) in
    prints_bytes fits (put_then header_fits c.put_line-next.ensures c.put_words.ensures)
