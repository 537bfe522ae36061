use Rattle.vga_run.proofs.StepLemmas.{refused_step}
use Rattle.vga_run.proofs.laws.refused_steps_change_nothing.Goals as goal

pub returns : goal.returns
returns c =
    let law = c.refused_cycles_change_nothing.ensures in
    refused_step (record {
      out = law.out;
      inp = law.inp;
      put = law.put;
      get = law.get;
      out_word = law.out_word;
      inp_word = law.inp_word;
      put_word = law.put_word;
      get_word = law.get_word;
    }) c.refused_services_do_nothing.ensures
