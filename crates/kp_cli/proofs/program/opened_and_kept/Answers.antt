use Rattle.std.proofs.Common.{◌≡◌, ◌∙◌, [], IfSome, Err, Ok, inl, inr, refl, sym, subst}
use Rattle.kp_types.specs.Folders.{Puts}
use Rattle.kp_cli.proofs.program.opened_and_kept.Goals as goal

pub returns-in-Err : goal.returns-in-Err
returns-in-Err g c =
    inl record {
      fault = c.in-Err.fault;
      opens = subst (λ file. g.F.Source.opens c.args.file c.args.script.now (Err c.in-Err.fault) file) (sym c.leave.ensures.file.0) c.in-Err.ensures;
      no_call = c.leave.ensures.file.1;
      folder_same = c.leave.ensures.folder;
      out_same = refl;
      told = c.refuse_path.ensures.told;
      status_is = c.leave.ensures.status ∙ c.refuse_path.ensures.status;
    }

pub returns-in-Err-take : goal.returns-in-Err-take
returns-in-Err-take g c =
    inr (inl (
      record {
        opens = subst (λ file. g.F.Source.opens c.args.file c.args.script.now (Ok tt) file) (sym c.leave-in-Err-take.ensures.file.0) c.in_default.ensures;
        unread = c.leave-in-Err-take.ensures.file.1;
      },
      record {
        fault = c.in-Err-take.fault;
        takes =
            subst (λ folder. g.K.KeptFolder.takes c.args.folder c.args.keep.now (Err c.in-Err-take.fault) folder) (sym c.leave-in-Err-take.ensures.folder.0)
            c.in-Err-take.ensures.takes;
        puts_none =
            subst (λ folder. Puts (g.K.Folder.entries c.args.folder) (g.K.Folder.entries folder) []) (sym c.leave-in-Err-take.ensures.folder.0)
            c.in-Err-take.ensures.err;
        no_call = c.leave-in-Err-take.ensures.folder.1;
        out_same = refl;
        told = c.refuse_path-in-Err-take.ensures.told;
        status_is = c.leave-in-Err-take.ensures.status ∙ c.refuse_path-in-Err-take.ensures.status;
      },
    ))

pub returns : goal.returns
returns g c =
    inr (inr record {
      file = c.new-file.result;
      is_opened = record {
        opens = subst (λ file. g.F.Source.opens c.args.file c.args.script.now (Ok tt) file) (sym c.new-file.ensures.device) c.in_default.ensures;
        unread = c.new-file.ensures.faults;
      };
      folder = c.new-folder.result;
      is_taken = record {
        takes = subst (λ folder. g.K.KeptFolder.takes c.args.folder c.args.keep.now (Ok tt) folder) (sym c.new-folder.ensures.device) c.in_default-take.ensures.takes;
        unput = c.new-folder.ensures.faults;
        empty = subst (λ folder. IfSome (g.K.Folder.entries folder) (λ all. all ≡ [])) (sym c.new-folder.ensures.device) c.in_default-take.ensures.ok;
      };
      runs = c.keep-status.ensures;
    })
