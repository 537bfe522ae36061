use Rattle.std.proofs.Common.{◌∙◌, ap, take, drop}
use Rattle.vga_card.proofs.card.saved.parts_of.Goals as goal

pub returns-clause-crtc : goal.returns-clause-crtc
returns-clause-crtc c = c.split_at-2.ensures.front ∙ ap (take 37) c.split_at.ensures.back

pub returns-clause-attr : goal.returns-clause-attr
returns-clause-attr c =
    let r1 = c.split_at.ensures.back in
    let r2 = c.split_at-2.ensures.back ∙ ap (drop 37) r1 in
    c.split_at-3.ensures.front ∙ ap (take 23) r2

pub returns-clause-dac : goal.returns-clause-dac
returns-clause-dac c =
    let r1 = c.split_at.ensures.back in
    let r2 = c.split_at-2.ensures.back ∙ ap (drop 37) r1 in
    let r3 = c.split_at-3.ensures.back ∙ ap (drop 23) r2 in
    c.split_at-4.ensures.front ∙ ap (take 773) r3

pub returns-clause-host : goal.returns-clause-host
returns-clause-host c =
    let r1 = c.split_at.ensures.back in
    let r2 = c.split_at-2.ensures.back ∙ ap (drop 37) r1 in
    let r3 = c.split_at-3.ensures.back ∙ ap (drop 23) r2 in
    let r4 = c.split_at-4.ensures.back ∙ ap (drop 773) r3 in
    c.split_at-5.ensures.front ∙ ap (take 262164) r4

pub returns-clause-dots : goal.returns-clause-dots
returns-clause-dots c =
    let r1 = c.split_at.ensures.back in
    let r2 = c.split_at-2.ensures.back ∙ ap (drop 37) r1 in
    let r3 = c.split_at-3.ensures.back ∙ ap (drop 23) r2 in
    let r4 = c.split_at-4.ensures.back ∙ ap (drop 773) r3 in
    c.split_at-5.ensures.back ∙ ap (drop 262164) r4
