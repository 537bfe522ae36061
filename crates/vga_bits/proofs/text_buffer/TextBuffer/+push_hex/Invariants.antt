use Rattle.vga_bits.proofs.text_buffer.TextBuffer.+push_hex.Given as goal

abbrev pub decreases-push_hex : goal.decreases-push_hex
decreases-push_hex g l = l.digits
