pub mod ImageStores  -- the image stored and compared, head and frame
