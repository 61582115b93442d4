use Rattle.std.proofs.Common.{◌∙◌, Err, Ok, inl, inr, refl, sym, subst}
use Rattle.kp_cli.proofs.program.opened.Goals as goal

pub returns-in-Err : goal.returns-in-Err
returns-in-Err g c =
    inl record {
      fault = c.in-Err.fault;
      opens = subst (λ file. g.F.Source.opens c.args.file c.args.path.now (Err c.in-Err.fault) file) (sym c.leave.ensures.file.0) c.in-Err.ensures;
      no_call = c.leave.ensures.file.1;
      folder_same = c.leave.ensures.folder;
      out_same = refl;
      told = c.refuse_path.ensures.told;
      status_is = c.leave.ensures.status ∙ c.refuse_path.ensures.status;
    }

pub returns : goal.returns
returns g c =
    inr record {
      file = c.new-file.result;
      is_opened = record {
        opens = subst (λ file. g.F.Source.opens c.args.file c.args.path.now (Ok tt) file) (sym c.new-file.ensures.device) c.in_default.ensures;
        unread = c.new-file.ensures.faults;
      };
      folder_same = (c.new.ensures.device, c.new.ensures.faults);
      performs = c.read-status.ensures;
    }
