use Rattle.std.proofs.Common.{◌∙◌, ◌++◌, codes}
use Rattle.std.proofs.lemmas.Result.{err_from_is_err_and}
use Rattle.bios_services.specs.Tables.{table_bytes}
use Rattle.vga_bits.proofs.WritingLemmas.{prefix_of_more}
use Rattle.vga_run.specs.Report.{line, number_text, registers_text, table_text}
use Rattle.vga_run.proofs.served.write_reply.Goals as goal

-- a prefix of the registers is a prefix of the line
pub returns-in_err-write_whole : goal.returns-in_err-write_whole
unfolding line
returns-in_err-write_whole g c =
    let w = rw (c.as_slice.ensures ∙ c.registers_line.ensures) at c.in_err-write_whole.ensures in
    let p = err_from_is_err_and c.from_residual.result c.from_residual.ensures.1 in
    let reply = c.args.reply.now in
    rw (p.1, p.2) (w.0, w.1, prefix_of_more _ _ (number_text c.args.n ++ registers_text reply.regs) (table_text (table_bytes reply.table) ++ codes "\n") w.2)
